-- Each step of the lock keeps its rule.
use Rattle.std.proofs.Common.{◌≡◌, ◌≢◌, inl, inr, ⊎_elim, ℕ, ◌+◌, ◌%◌, ◌^◌, ◌<◌, ◌≤◌, List, [], ◌∷◌, set, get_or, refl, ap, sym, ◌∙◌, subst, arith, Bool, true, false, ◌==◌, length-set, MatchBool, Contains, eqb-true, Some}
use Rattle.std.proofs.Math.Nat.{mod-add-mod}
use mathlib.Core.Option.{Option, none, some, some-injective}
use lib.ListN.{get_elem?}
use Rattle.atomic_table.specs.Table.{State, Me, Act, step, keeps, takes, gives, stepped, Allows, Valid}
use Rattle.atomic_table.proofs.Lists.{at_set, set_else, set_here, set_again, one_turn}
use Rattle.nova_lock.specs.declared.view.View.{View}
use Rattle.nova_lock.specs.declared.view.Phase.{Phase}
use Rattle.nova_lock.specs.declared.view.Phase.TheVariants.{Idle, Waiting, Called, Passed, Spent}
use Rattle.nova_lock.specs.History.{Adds, IsFrontOf}
use Rattle.nova_lock.specs.Ticketed.{is_queued, weight, Lines, IsInPlace, IsFirst, Apart, IsSound, Draws, Took, Looks, Passes, Gives, Heeds}
use Rattle.nova_lock.proofs.Queue.{queued-set, queued-few, fronts-added, fronts-self, entries-added, at_less}

Some-injective : {A : Type 0} {x y : A} → Some x ≡ Some y → x ≡ y
Some-injective e = cc e

module _ {T : Type 0} where
  pub each-set : (P : ℕ → View T → Type 0) (views : List (View T)) (id : ℕ) (w : View T) → P id w → ((i : ℕ) (u : View T) → i ≢ id → get_elem? views i ≡ some u → P i u)
      → (i : ℕ) (u : View T) → get_elem? (set views id w) i ≡ some u → P i u
  each-set P views id w here else i u e = ⊎_elim (λ t. subst (λ (z : ℕ × View T). P z.0 z.1) (λ j. (sym t.0 j, t.1 j)) here) (λ t. else i u t.0 t.1) (at_set views id i w u e)

  pub pairs-set : (views : List (View T)) (id : ℕ) (w : View T) → ((j : ℕ) (u : View T) → j ≢ id → get_elem? views j ≡ some u → Apart w u)
      → ((i j : ℕ) (v u : View T) → i ≢ j → get_elem? views i ≡ some v → get_elem? views j ≡ some u → Apart v u)
      → (i j : ℕ) (v u : View T) → i ≢ j → get_elem? (set views id w) i ≡ some v → get_elem? (set views id w) j ≡ some u → Apart v u
  pairs-set views id w here all i j v u ne ei ej = ⊎_elim
      (λ s. ⊎_elim (λ t. absurd (ne (s.0 ∙ sym t.0))) (λ t. subst (λ (x : View T). Apart x u) s.1 (here j u t.0 t.1)) (at_set views id j w u ej))
      (λ s. ⊎_elim (λ t. subst (λ (x : View T). Apart v x) t.1 (λ a b e. here i v s.0 s.1 b a (sym e))) (λ t. all i j v u ne s.1 t.1) (at_set views id j w u ej))
      (at_set views id i w v ei)

  pub one-phase : (views : List (View T)) (i j : ℕ) (v w : View T) → get_elem? views i ≡ some v → get_elem? views j ≡ some w → i ≡ j → v.phase ≡ w.phase
  one-phase views i j v w a b e = ap (λ (m : View T). m.phase) (some-injective v w (sym a ∙ (ap (get_elem? views) e ∙ b)))

  pub kept-set : (views : List (View T)) (now now' : List ℕ) (id : ℕ) (v w : View T) → get_elem? views id ≡ some v → v.phase ≢ Spent
      → ((n : ℕ) (f : List ℕ) → n ≢ id → IsFrontOf n f now → IsFrontOf n f now') → (n : ℕ) (f : List ℕ)
      → IsFrontOf n f now × ((x : View T) × (get_elem? views n ≡ some x) × (x.phase ≡ Spent))
      → IsFrontOf n f now' × ((x : View T) × (get_elem? (set views id w) n ≡ some x) × (x.phase ≡ Spent))
  kept-set views now now' id v w at alive more n f h =
      let ne : n ≢ id = λ e. alive (one-phase views id n v h.1.0 at h.1.1 (sym e) ∙ h.1.2) in
      (more n f ne h.0, (h.1.0, set_else views id n w ne ∙ h.1.1, h.1.2))

  -- what seat 0 knows stays when a seat changes its view and goes on
  first-set : (views : List (View T)) (now now' : List ℕ) (id : ℕ) (v w : View T) → get_elem? views id ≡ some v → v.phase ≢ Spent → w.phase ≢ Spent → w.made ≡ v.made → w.kept ≡ v.kept
      → ((n : ℕ) (f : List ℕ) → n ≢ id → IsFrontOf n f now → IsFrontOf n f now')
      → ((u : View T) → get_elem? views 0 ≡ some u → IsFirst views now u)
      → (u : View T) → get_elem? (set views id w) 0 ≡ some u → IsFirst (set views id w) now' u
  first-set views now now' id v w at alive alive' made kept more all u e = ⊎_elim
      (λ t. let old = all v (ap (get_elem? views) t.0 ∙ at) in subst (IsFirst (set views id w) now') t.1 (record {
        made = made ∙ (old.made ∙ sym (length-set views id w));
        alive = alive';
        kept = λ n f c. kept-set views now now' id v w at alive more n f (old.kept n f (subst (λ (l : List (ℕ × List ℕ)). Contains l (n, f)) kept c));
      }))
      (λ t. let old = all u t.1 in record {
        made = old.made ∙ sym (length-set views id w);
        alive = old.alive;
        kept = λ n f c. kept-set views now now' id v w at alive more n f (old.kept n f c);
      })
      (at_set views id 0 w u e)

  lines-range : (t s : ℕ) (now : List ℕ) (homes : List (Option T)) (u : View T) (p : Phase) → Lines t s now homes u p → is_queued p ≡ true → (s ≤ u.ticket) × (u.ticket < t)
  lines-range t s now homes u Idle l e = absurd (cc e)
  lines-range t s now homes u Waiting l e = l
  lines-range t s now homes u Called l e = (omega (arith, l.0), omega (arith, l.0, l.1))
  lines-range t s now homes u Passed l e = absurd (cc e)
  lines-range t s now homes u Spent l e = absurd (cc e)

  lines-draw : (t s : ℕ) (now : List ℕ) (homes : List (Option T)) (u : View T) (p : Phase) → Lines t s now homes u p → Lines (t + 1) s now homes u p
  lines-draw t s now homes u Idle l = tt
  lines-draw t s now homes u Waiting l = (l.0, omega (arith, l.1))
  lines-draw t s now homes u Called l = (l.0, omega (arith, l.1), l.2, l.3)
  lines-draw t s now homes u Passed l = tt
  lines-draw t s now homes u Spent l = tt

module _ {T O : Type 0} (opening : T → O) (history : T → List ℕ) (uses : T → ℕ) where
  abbrev St : Type 0
  St = State T (View T)

  abbrev H : T → St → Type 0
  H = IsSound opening history uses

  drawn : (k : T) (s : St) (r : H k s) (id : ℕ) (v : View T) (c : List (ℕ × T)) → get_elem? s.views id ≡ some v → v.phase ≡ Idle
      → H k (stepped s 0 ((get_or s.words 0 0 + 1) % 2 ^ 64) id c (record v { phase = Waiting; ticket = r.ticket }) keeps)
  drawn k s r id v c at idle =
      let w : View T = record v { phase = Waiting; ticket = r.ticket } in
      let alive : v.phase ≢ Spent = λ e. absurd (cc (idle, e)) in
      let alive' : w.phase ≢ Spent = λ e. absurd (cc e) in
      let mine = r.in_place id v at in
      let sum = queued-set s.views id v w at in
      let light : weight v.phase ≡ 0 = ap weight idle in
      let is = r.count in
      record {
        ticket = r.ticket + 1;
        serving = r.serving;
        now = r.now;
        words = ap (λ (ws : List ℕ). set ws 0 ((get_or ws 0 0 + 1) % 2 ^ 64)) r.words ∙ ap (λ (x : ℕ). x ∷ r.serving % 2 ^ 64 ∷ []) (mod-add-mod r.ticket (2 ^ 64) 1);
        count = omega arith;
        few = omega (arith, length-set s.views id w, r.few);
        in_place = each-set (IsInPlace (r.ticket + 1) r.serving r.now s.homes k) s.views id w
            (record { opened = λ _. mine.opened alive; line = (omega arith, omega arith); numbered = λ _. mine.numbered alive; fronts = λ _. mine.fronts alive })
            (λ i u ne e. let f = r.in_place i u e in record { opened = f.opened; line = lines-draw r.ticket r.serving r.now s.homes u u.phase f.line; numbered = f.numbered; fronts = f.fronts });
        apart = pairs-set s.views id w (λ j u ne e a b same. let range = lines-range r.ticket r.serving r.now s.homes u u.phase (r.in_place j u e).line b in omega (arith, range.1, same)) r.apart;
        placed = ⊎_elim inl (λ t. inr (t.0, t.1, set_else s.views id t.0 w (λ e. absurd (cc (one-phase s.views t.0 id t.1 v t.2 at e, idle, t.3))) ∙ t.2, t.3)) r.placed;
        first = first-set s.views r.now r.now id v w at alive alive' refl refl (λ n f ne h. h) r.first;
        unmade = λ i le. r.unmade i (omega (arith, le, length-set s.views id w));
      }

  pub draws : (k : T) (slots id : ℕ) (me : Me T (View T)) → me.0.phase ≡ Idle → Allows (H k) slots id me 0 (λ n. (n + 1) % 2 ^ 64) (Draws opening history uses (step slots 0 1 0 none) me)
  draws k slots id me idle s r _ at _ = (
    record me.0 { phase = Waiting; ticket = r.ticket },
    keeps,
    tt,
    drawn k s r id me.0 me.1 at idle,
    (r.ticket, sym (ap (λ (ws : List ℕ). get_or ws 0 0) r.words), refl),
  )

  -- no other seat has the value while the seat that is served waits
  alone : (k : T) (s : St) (r : H k s) (id : ℕ) (v : View T) → get_elem? s.views id ≡ some v → is_queued v.phase ≡ true → v.ticket ≡ r.serving
      → (i : ℕ) (u : View T) → i ≢ id → get_elem? s.views i ≡ some u → u.phase ≢ Called
  alone k s r id v at queued-v served i u ne e called =
      let f = r.in_place i u e in
      let l : Lines r.ticket r.serving r.now s.homes u Called = subst (Lines r.ticket r.serving r.now s.homes u) called f.line in
      r.apart i id u v ne e at (ap is_queued called) queued-v (l.0 ∙ sym served)

  lines-take : (t s : ℕ) (now : List ℕ) (homes homes' : List (Option T)) (u : View T) (p : Phase) → p ≢ Called → Lines t s now homes u p → Lines t s now homes' u p
  lines-take t s now homes homes' u Idle ne l = tt
  lines-take t s now homes homes' u Waiting ne l = l
  lines-take t s now homes homes' u Called ne l = absurd (ne refl)
  lines-take t s now homes homes' u Passed ne l = tt
  lines-take t s now homes homes' u Spent ne l = tt

  lines-pass : (t s : ℕ) (now now' : List ℕ) (homes homes' : List (Option T)) (u : View T) (p : Phase) → p ≢ Called → (is_queued p ≡ true → u.ticket ≢ s) → Lines t s now homes u p → Lines t (s + 1) now' homes' u p
  lines-pass t s now now' homes homes' u Idle ne other l = tt
  lines-pass t s now now' homes homes' u Waiting ne other l = let o = other refl in (omega (arith, o, l.0), l.1)
  lines-pass t s now now' homes homes' u Called ne other l = absurd (ne refl)
  lines-pass t s now now' homes homes' u Passed ne other l = tt
  lines-pass t s now now' homes homes' u Spent ne other l = tt

  taken : (k : T) (s : St) (r : H k s) (id : ℕ) (v : View T) (x : T) (n : ℕ) (c : List (ℕ × T)) → get_elem? s.views id ≡ some v → v.phase ≡ Waiting → v.ticket ≡ r.serving → get_or s.words 1 0 ≡ n
      → s.homes ≡ some x ∷ [] → history x ≡ r.now
      → H k (stepped s 1 n id c (record v { phase = Called; found = history x }) (takes 0 x))
  taken k s r id v x n c at waits served word home is =
      let w : View T = record v { phase = Called; found = history x } in
      let alive : v.phase ≢ Spent = λ e. absurd (cc (waits, e)) in
      let alive' : w.phase ≢ Spent = λ e. absurd (cc e) in
      let mine = r.in_place id v at in
      let queued-v : is_queued v.phase ≡ true = ap is_queued waits in
      let range = lines-range r.ticket r.serving r.now s.homes v v.phase mine.line queued-v in
      let sum = queued-set s.views id v w at in
      let one : weight v.phase ≡ 1 = ap weight waits in
      let count = r.count in
      let away : set s.homes 0 none ≡ none ∷ [] = ap (λ (hs : List (Option T)). set hs 0 none) home in
      record {
        ticket = r.ticket;
        serving = r.serving;
        now = r.now;
        words = ap (λ (m : ℕ). set s.words 1 m) (sym word) ∙ (ap (λ (ws : List ℕ). set ws 1 (get_or ws 1 0)) r.words);
        count = omega arith;
        few = omega (arith, length-set s.views id w, r.few);
        in_place = each-set (IsInPlace r.ticket r.serving r.now (set s.homes 0 none) k) s.views id w
            (record { opened = λ _. mine.opened alive; line = (served, omega (arith, served, range.1), is, away); numbered = λ _. mine.numbered alive; fronts = λ _. mine.fronts alive })
            (λ i u ne e. let f = r.in_place i u e in record { opened = f.opened; line = lines-take r.ticket r.serving r.now s.homes (set s.homes 0 none) u u.phase (alone k s r id v at queued-v served i u ne e) f.line; numbered = f.numbered; fronts = f.fronts });
        apart = pairs-set s.views id w (λ j u ne e a b same. r.apart j id u v ne e at b queued-v (sym same)) r.apart;
        placed = inr (id, w, set_here s.views id w (at_less s.views id v at), refl);
        first = first-set s.views r.now r.now id v w at alive alive' refl refl (λ n f ne h. h) r.first;
        unmade = λ i le. r.unmade i (omega (arith, le, length-set s.views id w));
      }

  home : (k : T) (s : St) (r : H k s) (id : ℕ) (v : View T) → get_elem? s.views id ≡ some v → v.phase ≡ Waiting → v.ticket ≡ r.serving
      → (x : T) × (s.homes ≡ some x ∷ []) × (opening x ≡ opening k) × (history x ≡ r.now) × (uses x ≡ r.serving % 2 ^ 64)
  home k s r id v at waits served = ⊎_elim (λ t. t)
      (λ t. absurd (alone k s r id v at (ap is_queued waits) served t.0 t.1 (λ e. absurd (cc (one-phase s.views t.0 id t.1 v t.2 at e, waits, t.3))) t.2 t.3))
      r.placed

  abbrev Out : T → St → ℕ → Me T (View T) → Bool → Type 0
  Out k s id me b = (w : View T) × (a : Act T) × Valid s.homes me.1 a × H k (stepped s 1 (get_or s.words 1 0) id me.1 w a)
      × MatchBool b (Took opening history uses me (w, Rattle.atomic_table.specs.Table.carried_after me.1 a)) ((w, Rattle.atomic_table.specs.Table.carried_after me.1 a) ≡ me)

  served-now : (k : T) (s : St) (r : H k s) (id : ℕ) (v : View T) → get_elem? s.views id ≡ some v → v.phase ≡ Waiting → r.serving % 2 ^ 64 ≡ v.ticket % 2 ^ 64 → v.ticket ≡ r.serving
  served-now k s r id v at waits same =
      let range = lines-range r.ticket r.serving r.now s.homes v v.phase (r.in_place id v at).line (ap is_queued waits) in
      let few = queued-few s.views in
      let count = r.count in
      let most = r.few in
      sym (one_turn r.serving v.ticket (2 ^ 64) range.0 (omega arith) same)

  looked : (k : T) (s : St) (r : H k s) (id : ℕ) (me : Me T (View T)) → get_elem? s.views id ≡ some me.0 → me.0.phase ≡ Waiting → me.1 ≡ []
      → (b : Bool) → (get_or s.words 1 0 == me.0.ticket % 2 ^ 64) ≡ b → Out k s id me b
  looked k s r id me at waits empty true is =
      let word : get_or s.words 1 0 ≡ r.serving % 2 ^ 64 = ap (λ (ws : List ℕ). get_or ws 1 0) r.words in
      let served = served-now k s r id me.0 at waits (sym word ∙ eqb-true _ _ is) in
      let h = home k s r id me.0 at waits served in
      let mine = r.in_place id me.0 at in
      let alive : me.0.phase ≢ Spent = λ e. absurd (cc (waits, e)) in (
        record me.0 { phase = Called; found = history h.0 },
        takes 0 h.0,
        ap (λ (hs : List (Option T)). get_elem? hs 0) h.1,
        taken k s r id me.0 h.0 (get_or s.words 1 0) me.1 at waits served refl h.1 h.3,
        record {
          value = h.0;
          next_is = refl;
          holds = record {
            hand = ap (λ (l : List (ℕ × T)). (0, h.0) ∷ l) empty;
            phase = refl;
            found = refl;
            opens = λ j e. h.2 ∙ ap opening (Some-injective (sym (mine.opened alive) ∙ e));
            counted = h.4 ∙ ap (λ (n : ℕ). n % 2 ^ 64) (sym served);
            fronts = subst (IsFrontOf me.0.number me.0.front) (sym h.3) (mine.fronts alive);
          };
        },
      )
  looked k s r id me at waits empty false is = (
    me.0,
    keeps,
    tt,
    subst (λ (z : List ℕ × List (View T)). H k record { words = z.0; homes = s.homes; views = z.1 })
        (λ i. (sym (ap (λ (ws : List ℕ). set ws 1 (get_or ws 1 0)) r.words ∙ sym r.words) i, sym (set_again s.views id me.0 at) i)) r,
    refl,
  )

  pub looks : (k : T) (slots id : ℕ) (me : Me T (View T)) → me.0.phase ≡ Waiting → me.1 ≡ [] → Allows (H k) slots id me 1 (λ n. n) (Looks opening history uses (step slots 1 0 0 none) me)
  looks k slots id me waits empty s r _ at _ = looked k s r id me at waits empty (get_or s.words 1 0 == me.0.ticket % 2 ^ 64) refl

  passed : (k : T) (s : St) (r : H k s) (id : ℕ) (v : View T) (x : T) → get_elem? s.views id ≡ some v → Gives opening history uses (v, (0, x) ∷ []) x
      → H k (stepped s 1 ((get_or s.words 1 0 + 1) % 2 ^ 64) id ((0, x) ∷ []) (record v { phase = Passed; front = history x }) gives)
  passed k s r id v x at g =
      let w : View T = record v { phase = Passed; front = history x } in
      let alive : v.phase ≢ Spent = λ e. absurd (cc (g.phase, e)) in
      let alive' : w.phase ≢ Spent = λ e. absurd (cc e) in
      let mine = r.in_place id v at in
      let queued-v : is_queued v.phase ≡ true = ap is_queued g.phase in
      let l : Lines r.ticket r.serving r.now s.homes v Called = subst (Lines r.ticket r.serving r.now s.homes v) g.phase mine.line in
      let added : Adds v.number r.now (history x) = subst (λ (h : List ℕ). Adds v.number h (history x)) l.2 g.added in
      let numbered : v.number ≡ id = mine.numbered alive in
      let sum = queued-set s.views id v w at in
      let one : weight v.phase ≡ 1 = ap weight g.phase in
      let count = r.count in
      let back : set s.homes 0 (some x) ≡ some x ∷ [] = ap (λ (hs : List (Option T)). set hs 0 (some x)) l.3 in
      record {
        ticket = r.ticket;
        serving = r.serving + 1;
        now = history x;
        words = ap (λ (ws : List ℕ). set ws 1 ((get_or ws 1 0 + 1) % 2 ^ 64)) r.words ∙ ap (λ (n : ℕ). r.ticket % 2 ^ 64 ∷ n ∷ []) (mod-add-mod r.serving (2 ^ 64) 1);
        count = omega arith;
        few = omega (arith, length-set s.views id w, r.few);
        in_place = each-set (IsInPlace r.ticket (r.serving + 1) (history x) (set s.homes 0 (some x)) k) s.views id w
            (record { opened = λ _. mine.opened alive; line = tt; numbered = λ _. numbered; fronts = λ _. fronts-self v.number (history x) })
            (λ i u ne e. let f = r.in_place i u e in record {
              opened = f.opened;
              line = lines-pass r.ticket r.serving r.now (history x) s.homes (set s.homes 0 (some x)) u u.phase (alone k s r id v at queued-v l.0 i u ne e) (λ q same. r.apart i id u v ne e at q queued-v (same ∙ sym l.0)) f.line;
              numbered = f.numbered;
              fronts = λ lives. fronts-added u.number v.number u.front r.now (history x) added (λ same. ne (sym (f.numbered lives) ∙ (same ∙ numbered))) (f.fronts lives);
            });
        apart = pairs-set s.views id w (λ j u ne e a b. absurd (cc a)) r.apart;
        placed = inl (x, back, g.opens k (mine.opened alive), refl, g.counted ∙ ap (λ (n : ℕ). (n + 1) % 2 ^ 64) l.0);
        first = first-set s.views r.now (history x) id v w at alive alive' refl refl (λ n f ne h. fronts-added n v.number f r.now (history x) added (λ same. ne (same ∙ numbered)) h) r.first;
        unmade = λ i le. let less = at_less s.views id v at in let long = length-set s.views id w in entries-added i v.number r.now (history x) added (λ same. omega (arith, same, numbered, less, long, le)) ∙ r.unmade i (omega (arith, le, long));
      }

  pub passes : (k : T) (slots id : ℕ) (me : Me T (View T)) (x : T) → Gives opening history uses me x → Allows (H k) slots id me 1 (λ n. (n + 1) % 2 ^ 64) (Passes opening history uses (step slots 1 1 0 none) me)
  passes k slots id me x g s r _ at _ =
      let P : List (ℕ × T) → Type 0 = λ c. Gives opening history uses (me.0, c) x → (w : View T) × (a : Act T) × Valid s.homes c a × H k (stepped s 1 ((get_or s.words 1 0 + 1) % 2 ^ 64) id c w a)
      × Passes opening history uses (step slots 1 1 0 none) (me.0, c) (get_or s.words 1 0) (w, Rattle.atomic_table.specs.Table.carried_after c a) in
      subst P (sym g.hand) (λ g'. (
        record me.0 { phase = Passed; front = history x },
        gives,
        tt,
        passed k s r id me.0 x at g',
        (
          ap (λ (ws : List ℕ). get_or ws 1 0) r.words
              ∙ ap (λ (n : ℕ). n % 2 ^ 64) (sym (subst (λ (p : Phase). Lines r.ticket r.serving r.now s.homes me.0 p) g.phase (r.in_place id me.0 at).line).0),
          λ y e. ap (λ (l : List (ℕ × T)). (record me.0 { phase = Passed; front = history ((get_or l 0 (0, x)).1) }, [])) e,
        ),
      )) g

  heeded : (k : T) (s : St) (r : H k s) (id : ℕ) (v : View T) (n : ℕ) (c : List (ℕ × T)) → get_elem? s.views id ≡ some v → v.phase ≡ Passed → get_or s.words 0 0 ≡ n
      → H k (stepped s 0 n id c (record v { phase = Idle; drawn = n }) keeps)
  heeded k s r id v n c at owes word =
      let w : View T = record v { phase = Idle; drawn = n } in
      let alive : v.phase ≢ Spent = λ e. absurd (cc (owes, e)) in
      let alive' : w.phase ≢ Spent = λ e. absurd (cc e) in
      let mine = r.in_place id v at in
      let sum = queued-set s.views id v w at in
      let light : weight v.phase ≡ 0 = ap weight owes in
      let count = r.count in
      record {
        ticket = r.ticket;
        serving = r.serving;
        now = r.now;
        words = ap (λ (m : ℕ). set s.words 0 m) (sym word) ∙ (ap (λ (ws : List ℕ). set ws 0 (get_or ws 0 0)) r.words);
        count = omega arith;
        few = omega (arith, length-set s.views id w, r.few);
        in_place = each-set (IsInPlace r.ticket r.serving r.now s.homes k) s.views id w
            (record { opened = λ _. mine.opened alive; line = tt; numbered = λ _. mine.numbered alive; fronts = λ _. mine.fronts alive })
            (λ i u ne e. r.in_place i u e);
        apart = pairs-set s.views id w (λ j u ne e a b. absurd (cc a)) r.apart;
        placed = ⊎_elim inl (λ t. inr (t.0, t.1, set_else s.views id t.0 w (λ e. absurd (cc (one-phase s.views t.0 id t.1 v t.2 at e, owes, t.3))) ∙ t.2, t.3)) r.placed;
        first = first-set s.views r.now r.now id v w at alive alive' refl refl (λ n f ne h. h) r.first;
        unmade = λ i le. r.unmade i (omega (arith, le, length-set s.views id w));
      }

  pub heeds : (k : T) (slots id : ℕ) (me : Me T (View T)) → me.0.phase ≡ Passed → Allows (H k) slots id me 0 (λ n. n) (Heeds (step slots 0 0 0 none) me)
  heeds k slots id me owes s r _ at _ = (record me.0 { phase = Idle; drawn = get_or s.words 0 0 }, keeps, tt, heeded k s r id me.0 (get_or s.words 0 0) me.1 at owes refl, (refl, owes, refl))
