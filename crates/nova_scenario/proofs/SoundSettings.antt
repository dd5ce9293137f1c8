-- What is set is sound: each definition keeps it.
use Rattle.std.proofs.Common.{◌≡◌, ℕ, ◌^◌, ◌%◌, ◌<◌, ◌≤◌, ◌==◌, Bool, true, false, ◌&&◌, Option, Some, None, Result, Ok, Err, refl, ap, subst, arith, sym, ◌∙◌}
use Rattle.std.specs.Prelude.{nat_le, nat_lt, IfSome, option_map}
use Rattle.std.proofs.lemmas.Bool.Decides.{nat_tests}
use Rattle.nova_text.specs.Number.{u32_of}
use Rattle.nova_scenario.specs.Settings.{within, aligned, pc_of, root_of, entered_at, entered, set_once, put, with_setting, frames_size, ram_size}
use Rattle.nova_scenario.specs.Statement.{kept}
use Rattle.nova_scenario.specs.declared.fault.Why.{Why}
use Rattle.nova_scenario.specs.declared.fault.Why.TheVariants.{Range}
use Rattle.nova_scenario.specs.declared.settings.Root.{Root}
use Rattle.nova_scenario.specs.declared.settings.Settings.{Settings}
use Rattle.nova_scenario.specs.declared.statement.Setting.{Setting}
use Rattle.nova_scenario.specs.declared.statement.Setting.TheVariants.{Cpus, Ram, Consoles, Root as RootLine}
use Rattle.nova_scenario.specs.declared.statement.Start.{Start}
use Rattle.nova_scenario.specs.declared.statement.Start.TheVariants.{Address, Entry}

-- the numbers of a line are below 2 ^ 32
abbrev pub IsWord : ℕ → Type 0
IsWord n = n < 2 ^ 32

abbrev pub StartIsWord : Start → Type 0
StartIsWord (Address n) = IfSome n IsWord
StartIsWord Entry = Unit {0}

abbrev pub HasWords : Setting → Type 0
HasWords (Cpus n) = Unit {0}
HasWords (Ram m) = Unit {0}
HasWords (Consoles c) = Unit {0}
HasWords (RootLine start sp priority quantum) = StartIsWord start × IfSome sp IsWord

pub word_kept : (o : Option ℕ) → IfSome (kept (u32_of o)) (λ n. IfSome n IsWord)
word_kept None = tt
word_kept (Some n) = go (nat_lt n (2 ^ 32)) refl where
  go : (b : Bool) → nat_lt n (2 ^ 32) ≡ b → IfSome (kept (u32_of (Some n))) (λ n. IfSome n IsWord)
  go true is = rw is (grind (arith, nat_tests))
  go false is = rw is tt

-- what is set is in its range
abbrev pub IsPc : ℕ → Type 0
IsPc pc = (pc % 4 ≡ 0) × IsWord pc

pub record IsSoundRoot (root : Root) : Type 0 where
  pub pc : IfSome root.pc IsPc
  pub sp : root.sp < 2 ^ 32
  pub priority : root.priority < 256
  pub some_turn : 1 ≤ root.quantum
  pub quantum : root.quantum < 2 ^ 24

pub record AreSound (s : Settings) : Type 0 where
  pub cpus : IfSome s.cpus (λ n. (1 ≤ n) × (n ≤ 8))
  pub ram : IfSome s.ram (λ m. m ≤ 14)
  pub consoles : IfSome s.consoles (λ c. c ≤ 16)
  pub root : IfSome s.root IsSoundRoot

pub within-range : (low high : ℕ) (o : Option ℕ) → IfSome (within low high o) (λ n. (low ≤ n) × (n ≤ high))
within-range low high None = tt
within-range low high (Some n) = go (nat_le low n && nat_le n high) refl where
  go : (b : Bool) → (nat_le low n && nat_le n high) ≡ b → IfSome (within low high (Some n)) (λ n. (low ≤ n) × (n ≤ high))
  go true is = rw is (grind (arith, nat_tests), grind (arith, nat_tests))
  go false is = rw is tt

pub aligned-range : (o : Option ℕ) → IfSome o IsWord → IfSome (aligned o) IsPc
aligned-range None word = tt
aligned-range (Some n) word = go (n % 4 == 0) refl where
  go : (b : Bool) → (n % 4 == 0) ≡ b → IfSome (aligned (Some n)) IsPc
  go true is = rw is (grind (arith, nat_tests), word)
  go false is = rw is tt

pub pc-sound : (start : Start) → StartIsWord start → IfSome (pc_of start) (λ pc. IfSome pc IsPc)
pc-sound (Address n) word = go (aligned n) (aligned-range n word) where
  go : (o : Option ℕ) → IfSome o IsPc → IfSome (option_map Some o) (λ pc. IfSome pc IsPc)
  go None h = tt
  go (Some pc) h = h
pc-sound Entry word = tt

pub root-sound : (pc : Option (Option ℕ)) (sp priority quantum : Option ℕ) → IfSome pc (λ o. IfSome o IsPc) → IfSome sp IsWord → IfSome priority (λ n. (0 ≤ n) × (n ≤ 255)) → IfSome quantum (λ n. (1 ≤ n) × (n ≤ 16777215)) → IfSome (root_of pc sp priority quantum) IsSoundRoot
root-sound (Some pc) (Some sp) (Some priority) (Some quantum) p s r q = record {
  pc = p;
  sp = s;
  priority = omega arith;
  some_turn = q.0;
  quantum = omega arith;
}
root-sound None _ _ _ p s r q = tt
root-sound (Some pc) None _ _ p s r q = tt
root-sound (Some pc) (Some sp) None _ p s r q = tt
root-sound (Some pc) (Some sp) (Some priority) None p s r q = tt

-- a setting keeps what is set sound, and RAM no smaller
pub record Keeps (s t : Settings) : Type 0 where
  pub sound : AreSound t
  pub more : ram_size s ≤ ram_size t

pub once-new : {A : Type 0} (old new : Option A) (x : A) → set_once old new ≡ Ok x → (old ≡ None) × (new ≡ Some x)
once-new (Some old) new x is = cc
once-new None None x is = cc
once-new None (Some new) x is = (refl, cc)

pub put-new : {A : Type 0} (with_new : A → Settings) (r : Result A Why) (t : Settings) → put with_new r ≡ Ok t → (x : A) × (r ≡ Ok x) × (t ≡ with_new x)
put-new with_new (Ok x) t is = (x, refl, cc)
put-new with_new (Err why) t is = cc

pub setting_kept : (s t : Settings) (setting : Setting) → AreSound s → HasWords setting → with_setting s setting ≡ Ok t → Keeps s t
setting_kept s t (Cpus n) sound words is =
    let p = put-new _ _ t is in
    let q = once-new s.cpus (within 1 8 n) p.0 p.1 in
    let range = subst (λ o. IfSome o (λ n. (1 ≤ n) × (n ≤ 8))) q.1 (within-range 1 8 n) in
    rw p.2 (record { sound = record { cpus = range; ram = sound.ram; consoles = sound.consoles; root = sound.root }; more = omega arith })
setting_kept s t (Ram m) sound words is =
    let p = put-new _ _ t is in
    let q = once-new s.ram (within 0 14 m) p.0 p.1 in
    let range = subst (λ o. IfSome o (λ n. (0 ≤ n) × (n ≤ 14))) q.1 (within-range 0 14 m) in
    let none : ram_size s ≡ 0 = ap frames_size q.0 in
    rw p.2 (record { sound = record { cpus = sound.cpus; ram = range.1; consoles = sound.consoles; root = sound.root }; more = omega arith })
setting_kept s t (Consoles c) sound words is =
    let p = put-new _ _ t is in
    let q = once-new s.consoles (within 0 16 c) p.0 p.1 in
    let range = subst (λ o. IfSome o (λ n. (0 ≤ n) × (n ≤ 16))) q.1 (within-range 0 16 c) in
    rw p.2 (record { sound = record { cpus = sound.cpus; ram = sound.ram; consoles = range.1; root = sound.root }; more = omega arith })
setting_kept s t (RootLine start sp priority quantum) sound words is =
    let p = put-new _ _ t is in
    let q = once-new s.root (root_of (pc_of start) sp (within 0 255 priority) (within 1 16777215 quantum)) p.0 p.1 in
    let range = subst (λ o. IfSome o IsSoundRoot) q.1 (root-sound (pc_of start) sp (within 0 255 priority) (within 1 16777215 quantum) (pc-sound start words.0) words.1 (within-range 0 255 priority) (within-range 1 16777215 quantum)) in
    rw p.2 (record { sound = record { cpus = sound.cpus; ram = sound.ram; consoles = sound.consoles; root = range }; more = omega arith })

-- the entry of an executable keeps what is set sound, and RAM
pub entered_root : (root new : Root) (pc : Option ℕ) (entry : ℕ) → root.pc ≡ pc → IsSoundRoot root → entered_at root pc entry ≡ Ok new → IsSoundRoot new
entered_root root new (Some pc) entry at sound is = let new_is : new ≡ root = cc in rw new_is sound
entered_root root new None entry at sound is = go (nat_lt entry (2 ^ 32) && entry % 4 == 0) refl where
  go : (b : Bool) → (nat_lt entry (2 ^ 32) && entry % 4 == 0) ≡ b → IsSoundRoot new
  go true t =
      let same : Ok (record root { pc = Some entry }) ≡ Ok new = rw t at is in
      let new_is : new ≡ record root { pc = Some entry } = cc in
      let here : IsSoundRoot (record root { pc = Some entry }) = record {
        pc = (grind (arith, nat_tests), grind (arith, nat_tests));
        sp = sound.sp;
        priority = sound.priority;
        some_turn = sound.some_turn;
        quantum = sound.quantum;
      } in
      rw new_is here
  go false t = let same : Err Range ≡ Ok new = rw t at is in cc

pub entered_kept : (s t : Settings) (root : Option Root) (entry : ℕ) → s.root ≡ root → AreSound s → entered s root entry ≡ Ok t → AreSound t × (ram_size t ≡ ram_size s)
entered_kept s t None entry at sound is = let t_is : t ≡ s = cc in rw t_is (sound, refl)
entered_kept s t (Some root) entry at sound is =
    let p = put-new _ (entered_at root root.pc entry) t is in
    let there = subst (λ o. IfSome o IsSoundRoot) at sound.root in
    let new : AreSound (record s { root = Some p.0 }) = record { cpus = sound.cpus; ram = sound.ram; consoles = sound.consoles; root = entered_root root p.0 root.pc entry refl there p.1 } in
    rw p.2 (new, refl)

-- how many processors there are stays, where it is set
pub setting_cpus : (s t : Settings) (setting : Setting) (n : ℕ) → with_setting s setting ≡ Ok t → s.cpus ≡ Some n → t.cpus ≡ Some n
setting_cpus s t (Cpus m) n is set =
    let p = put-new _ _ t is in
    let q = once-new s.cpus (within 1 8 m) p.0 p.1 in absurd (let both : None ≡ Some n = sym q.0 ∙ set in cc)
setting_cpus s t (Ram m) n is set = let p = put-new _ _ t is in ap (λ (x : Settings). x.cpus) p.2 ∙ set
setting_cpus s t (Consoles c) n is set = let p = put-new _ _ t is in ap (λ (x : Settings). x.cpus) p.2 ∙ set
setting_cpus s t (RootLine start sp priority quantum) n is set = let p = put-new _ _ t is in ap (λ (x : Settings). x.cpus) p.2 ∙ set

pub entered_cpus : (s t : Settings) (root : Option Root) (entry n : ℕ) → entered s root entry ≡ Ok t → s.cpus ≡ Some n → t.cpus ≡ Some n
entered_cpus s t None entry n is set = let t_is : t ≡ s = cc in ap (λ (x : Settings). x.cpus) t_is ∙ set
entered_cpus s t (Some root) entry n is set = let p = put-new _ (entered_at root root.pc entry) t is in ap (λ (x : Settings). x.cpus) p.2 ∙ set
