-- A lock is opened, seats are made, and seat 0 takes in the others.
use Rattle.std.proofs.Common.{◌≡◌, ◌≢◌, inl, inr, ⊎_elim, ℕ, zero, suc, ◌+◌, ◌%◌, ◌^◌, ◌<◌, List, [], ◌∷◌, ◌++◌, set, refl, ap, sym, ◌∙◌, subst, arith, length-set, length-append, Contains, Some, None}
use mathlib.Core.Option.{Option, some, some-injective, some-ne-none}
use lib.ListN.{get_elem?}
use Rattle.atomic_table.specs.Table.{State, Splits, Joins, opening, Final, Seen}
use Rattle.atomic_table.proofs.Lists.{at_set, set_else, set_here, at_longer}
use Rattle.nova_lock.specs.declared.view.View.{View}
use Rattle.nova_lock.specs.declared.view.Phase.TheVariants.{Idle, Called, Spent}
use Rattle.nova_lock.specs.History.{entries, IsFrontOf}
use mathlib.Core.Logic.{dite}
use native.Mathlib.Decide.{ℕ_discrete}
use Rattle.nova_lock.specs.Ticketed.{weight, IsInPlace, IsFirst, IsSound, Closes}
use Rattle.nova_lock.proofs.Queue.{queued-set, queued-snoc, at_less, snoc_at, cons_cases}
use Rattle.nova_lock.proofs.Steps.{each-set, pairs-set, one-phase, kept-set}

abbrev pub new_view : {T : Type 0} → ℕ → Rattle.std.specs.Prelude.Option T → View T
new_view n o = record { phase = Idle; number = n; ticket = 0; found = []; front = []; drawn = 0; opened = o; made = 0; kept = [] }

abbrev pub spent_view : {T : Type 0} → View T
spent_view = record { phase = Spent; number = 0; ticket = 0; found = []; front = []; drawn = 0; opened = None; made = 0; kept = [] }

module _ {T O : Type 0} (opens : T → O) (history : T → List ℕ) (uses : T → ℕ) where
  abbrev St : Type 0
  St = State T (View T)

  abbrev H : T → St → Type 0
  H = IsSound opens history uses

  only : {A : Type 0} (v u : A) (i : ℕ) → get_elem? (v ∷ []) i ≡ some u → (i ≡ 0) × (v ≡ u)
  only v u zero e = (refl, some-injective v u e)
  only v u (suc i) e = absurd (some-ne-none u (sym e))

  pub opened : (x : T) (b : ℕ) → b < 2 ^ 64 → history x ≡ [] → uses x ≡ b
      → H x (opening (b ∷ b ∷ []) (x ∷ []) (record (new_view 0 (Some x)) { made = 1 }))
  opened x b small none-yet counted =
      let v : View T = record (new_view 0 (Some x)) { made = 1 } in
      let same : b % 2 ^ 64 ≡ b = omega arith in record {
        ticket = b;
        serving = b;
        now = [];
        words = ap (λ (n : ℕ). n ∷ n ∷ []) (sym same);
        count = omega arith;
        few = omega arith;
        in_place = λ i u e. let t = only v u i e in subst (λ (z : ℕ × View T). IsInPlace b b [] (some x ∷ []) x z.0 z.1) (λ j. (sym t.0 j, t.1 j))
            (record { opened = λ _. refl; line = tt; numbered = λ _. refl; fronts = λ _. record { prefix = ([], refl); whole = refl } });
        apart = λ i j v' w ne ei ej. absurd (ne ((only v v' i ei).0 ∙ sym (only v w j ej).0));
        placed = inl (x, refl, refl, none-yet, counted ∙ sym same);
        first = λ u e. subst (IsFirst (v ∷ []) []) (only v u 0 e).1 (record { made = refl; alive = λ e'. absurd (cc e'); kept = λ n f c. absurd (omega (arith, c.1)) });
        unmade = λ i le. refl;
      }

  -- the seat with number 0 is the first
  pub splits : (k : T) (id : ℕ) (v : View T) → v.phase ≡ Idle → v.number ≡ 0 → v.made < 2 ^ 32
      → Splits (H k) id v (record v { made = v.made + 1 }) (new_view v.made v.opened)
  splits k id v idle zeroth few s r at =
      let w : View T = record v { made = v.made + 1 } in
      let n : View T = new_view v.made v.opened in
      let alive : v.phase ≢ Spent = λ e. absurd (cc (idle, e)) in
      let mine = r.in_place id v at in
      let is : id ≡ 0 = sym (mine.numbered alive) ∙ zeroth in
      let at0 : get_elem? s.views 0 ≡ some v = ap (get_elem? s.views) (sym is) ∙ at in
      let old = r.first v at0 in
      let long = length-set s.views id w in
      let longer = length-append (set s.views id w) (n ∷ []) in
      let made = old.made in
      let less = at_less s.views id v at in
      let sum = queued-set s.views id v w at in
      let sum' = queued-snoc (set s.views id w) n in
      let none-yet : entries v.made r.now ≡ 0 = r.unmade v.made (omega arith) in
      let count = r.count in
      let here : IsInPlace r.ticket r.serving r.now s.homes k id w = record { opened = mine.opened; line = mine.line; numbered = mine.numbered; fronts = mine.fronts } in
      let there : IsInPlace r.ticket r.serving r.now s.homes k v.made n = record { opened = λ _. mine.opened alive; line = tt; numbered = λ _. refl; fronts = λ _. record { prefix = (r.now, refl); whole = sym none-yet } } in
      record {
        ticket = r.ticket;
        serving = r.serving;
        now = r.now;
        words = r.words;
        count = omega arith;
        few = omega arith;
        in_place = λ i u e. ⊎_elim
            (each-set (IsInPlace r.ticket r.serving r.now s.homes k) s.views id w here (λ j x ne ex. r.in_place j x ex) i u)
            (λ t. subst (λ (z : ℕ × View T). IsInPlace r.ticket r.serving r.now s.homes k z.0 z.1) (λ j. ((made ∙ sym (t.0 ∙ long)) j, t.1 j)) there)
            (snoc_at (set s.views id w) n u i e);
        apart = λ i j x y ne ei ej. ⊎_elim
            (λ p. ⊎_elim
            (λ q. pairs-set s.views id w (λ l u nl el a b. absurd (cc (a, idle))) r.apart i j x y ne p q)
            (λ q a b. absurd (cc (b, ap (λ (m : View T). m.phase) q.1)))
            (snoc_at (set s.views id w) n y j ej))
            (λ p a b. absurd (cc (a, ap (λ (m : View T). m.phase) p.1)))
            (snoc_at (set s.views id w) n x i ei);
        placed = ⊎_elim inl (λ t. inr (t.0, t.1, at_longer (set s.views id w) (n ∷ []) t.0 t.1 (set_else s.views id t.0 w (λ e. absurd (cc (one-phase s.views t.0 id t.1 v t.2 at e, idle, t.3))) ∙ t.2), t.3)) r.placed;
        first = λ u e. ⊎_elim
            (λ p. ⊎_elim
            (λ t. subst (IsFirst (set s.views id w ++ n ∷ []) r.now) t.1 (record {
              made = omega arith;
              alive = alive;
              kept = λ m f c. let h = kept-set s.views r.now r.now id v w at alive (λ _ _ _ x. x) m f (old.kept m f c) in (h.0, (h.1.0, at_longer (set s.views id w) (n ∷ []) m h.1.0 h.1.1, h.1.2));
            }))
            (λ t. absurd (t.0 (sym is)))
            (at_set s.views id 0 w u p))
            (λ p. let z = p.0 in absurd (omega arith))
            (snoc_at (set s.views id w) n u 0 e);
        unmade = λ i le. r.unmade i (omega (arith, le, long, longer));
      }

  pub joins : (k : T) (id : ℕ) (v : View T) (other : ℕ) (w : View T) → v.phase ≡ Idle → v.number ≡ 0 → w.phase ≡ Idle
      → Joins (H k) id v other w (record v { kept = (w.number, w.front) ∷ v.kept }) spent_view
  joins k id v other w idle zeroth idle' s r at ne at' =
      let both : View T = record v { kept = (w.number, w.front) ∷ v.kept } in
      let one : List (View T) = set s.views id both in
      let alive : v.phase ≢ Spent = λ e. absurd (cc (idle, e)) in
      let alive' : w.phase ≢ Spent = λ e. absurd (cc (idle', e)) in
      let mine = r.in_place id v at in
      let at'' : get_elem? s.views other ≡ some w = sym (set_else s.views id other both ne) ∙ at' in
      let theirs = r.in_place other w at'' in
      let is : id ≡ 0 = sym (mine.numbered alive) ∙ zeroth in
      let at0 : get_elem? s.views 0 ≡ some v = ap (get_elem? s.views) (sym is) ∙ at in
      let old = r.first v at0 in
      let long = length-set s.views id both in
      let longer = length-set one other spent_view in
      let sum = queued-set s.views id v both at in
      let sum' = queued-set one other w spent_view at' in
      let light : weight w.phase ≡ 0 = ap weight idle' in
      let count = r.count in
      let here : IsInPlace r.ticket r.serving r.now s.homes k id both = record { opened = mine.opened; line = mine.line; numbered = mine.numbered; fronts = mine.fronts } in
      let there : IsInPlace r.ticket r.serving r.now s.homes k other spent_view = record { opened = λ e. absurd (e refl); line = tt; numbered = λ e. absurd (e refl); fronts = λ e. absurd (e refl) } in
      let keeps-on : (n : ℕ) (f : List ℕ) → IsFrontOf n f r.now × ((x : View T) × (get_elem? s.views n ≡ some x) × (x.phase ≡ Spent)) → IsFrontOf n f r.now × ((x : View T) × (get_elem? (set one other spent_view) n ≡ some x) × (x.phase ≡ Spent)) =
      λ n f h. kept-set one r.now r.now other w spent_view at' alive' (λ _ _ _ x. x) n f (kept-set s.views r.now r.now id v both at alive (λ _ _ _ x. x) n f h) in
      record {
        ticket = r.ticket;
        serving = r.serving;
        now = r.now;
        words = r.words;
        count = omega arith;
        few = omega (arith, long, longer, r.few);
        in_place = each-set (IsInPlace r.ticket r.serving r.now s.homes k) one other spent_view there (λ i u _. each-set (IsInPlace r.ticket r.serving r.now s.homes k) s.views id both here (λ j x _ ex. r.in_place j x ex) i u);
        apart = pairs-set one other spent_view (λ l u nl el a b. absurd (cc a)) (pairs-set s.views id both (λ l u nl el a b. absurd (cc (a, idle))) r.apart);
        placed = ⊎_elim inl (λ t. inr (
          t.0,
          t.1,
          set_else one other t.0 spent_view (λ e. absurd (cc (one-phase s.views t.0 other t.1 w t.2 at'' e, idle', t.3)))
              ∙ (set_else s.views id t.0 both (λ e. absurd (cc (one-phase s.views t.0 id t.1 v t.2 at e, idle, t.3))) ∙ t.2),
          t.3,
        )) r.placed;
        first = λ u e. ⊎_elim
            (λ t. absurd (ne (sym t.0 ∙ sym is)))
            (λ t. ⊎_elim
            (λ q. subst (IsFirst (set one other spent_view) r.now) q.1 (record {
              made = old.made ∙ (sym long ∙ sym longer);
              alive = alive;
              kept = λ n f c. ⊎_elim
                  (λ same. subst (λ (z : ℕ × List ℕ). IsFrontOf z.0 z.1 r.now × ((x : View T) × (get_elem? (set one other spent_view) z.0 ≡ some x) × (x.phase ≡ Spent))) same
                  (theirs.fronts alive', (spent_view, ap (get_elem? (set one other spent_view)) (theirs.numbered alive') ∙ set_here one other spent_view (at_less one other w at'), refl)))
                  (λ c'. keeps-on n f (old.kept n f c'))
                  (cons_cases (w.number, w.front) v.kept (n, f) c);
            }))
            (λ q. absurd (q.0 (sym is)))
            (at_set s.views id 0 both u t.1))
            (at_set one other 0 spent_view u e);
        unmade = λ i le. r.unmade i (omega (arith, le, long, longer));
      }

  -- at the end no seat has the value
  pub closes : (k : T) (id : ℕ) (v : View T) (ws : List ℕ) (xs : List T) (x : T) → v.phase ≡ Idle → v.number ≡ 0 → ((i : ℕ) → 0 < i → i < v.made → (f : List ℕ) × Contains v.kept (i, f))
      → Final (Seen (H k) id v) ws xs → get_elem? xs 0 ≡ some x → Closes opens history uses k v x
  closes k id v ws xs x idle zeroth all f here =
      let s : St = f.0 in
      let r : H k s = f.1.0 in
      let at : get_elem? s.views id ≡ some v = f.1.1 in
      let alive : v.phase ≢ Spent = λ e. absurd (cc (idle, e)) in
      let mine = r.in_place id v at in
      let is : id ≡ 0 = sym (mine.numbered alive) ∙ zeroth in
      let at0 : get_elem? s.views 0 ≡ some v = ap (get_elem? s.views) (sym is) ∙ at in
      let old = r.first v at0 in
      let spent : (i : ℕ) (u : View T) → 0 < i → get_elem? s.views i ≡ some u → u.phase ≡ Spent = λ i u pos e.
      let made = old.made in let less = at_less s.views i u e in let a = all i pos (omega arith) in let h = old.kept i a.0 a.1 in one-phase s.views i i u h.1.0 e h.1.1 refl ∙ h.1.2 in
      let called : (i : ℕ) (u : View T) → get_elem? s.views i ≡ some u → u.phase ≢ Called = λ i u e c. dite (ℕ_discrete i 0)
      (λ z. absurd (cc (one-phase s.views i 0 u v e at0 z, idle, c)))
      (λ ne. absurd (cc (spent i u (omega arith) e, c))) in
      ⊎_elim
      (λ h. let same : h.0 ≡ x = some-injective h.0 x (sym (f.4 0 h.0 (ap (λ (hs : List (Option T)). get_elem? hs 0) h.1)) ∙ here) in
      subst (Closes opens history uses k v) same (record {
        opens = h.2;
        first = subst (λ (z : ℕ × List ℕ). IsFrontOf z.0 v.front z.1) (λ j. (zeroth j, sym h.3 j)) (mine.fronts alive);
        kept = λ n g c. subst (IsFrontOf n g) (sym h.3) (old.kept n g c).0;
        others = λ n le. ap (entries n) h.3 ∙ r.unmade n (omega (arith, le, old.made));
      }))
      (λ t. absurd (called t.0 t.1 t.2 t.3))
      r.placed
