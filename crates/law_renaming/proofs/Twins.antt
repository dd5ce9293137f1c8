-- Two runs whose inputs agree but for the frames.
use Rattle.std.proofs.Common.{◌≡◌, ◌+◌, ℕ, zero, suc, List, [], ◌∷◌, length, ap, sym, ◌∙◌, subst, subst₂, refl, arith}
use Rattle.std.specs.Prelude.{Bool, true, false, nat_lt, slice_get, Option, Some, None}
use Rattle.std.specs.List.{filter}
use Rattle.nova_guest.specs.Alone.{outputs}
use Rattle.nova_guest.specs.Cells.{cell_at}
use Rattle.nova_guest.specs.Maps.{is_covered}
use Rattle.nova_guest.specs.declared.input.Out.{Out}
use Rattle.nova_guest.specs.declared.input.Out.TheVariants as out
use Rattle.nova_guest.specs.declared.map.Map.{Map}
use Rattle.nova_model.specs.Boot.{Scenario, boot}
use Rattle.nova_model.specs.Guests.{inputs}
use Rattle.nova_model.specs.Runs.{after, run}
use Rattle.nova_model.specs.State.{KernelState, pd_of}
use Rattle.nova_model.specs.Views.{cells_of, maps_of, view}
use Rattle.nova_model.specs.declared.log.LogByte.{LogByte}
use Rattle.law_isolation.specs.Law.{bytes_of}
use Rattle.law_isolation.specs.Shown.{exits_in, gained, is_byte}
use Rattle.law_isolation.specs.Sound.{IsSound, IsVirtual}
use Rattle.law_isolation.proofs.Runs.{reached_sound, run_alone, run_sound, space_is_own, turn_virtual}
use Rattle.law_isolation.proofs.Showing.{exits_shown}
use Rattle.law_isolation.proofs.Shows.{bytes_put}
use Rattle.law_isolation.proofs.Spaces.{cell_of}
use Rattle.law_renaming.specs.Renamings.{CellsAgree, GuestsAgree, MapsAgree, OutsAgree, Renames}
use Rattle.law_renaming.specs.Twins.{AreCellsFound, AreTwins, EndAsTwins, IsRenaming, LogsAgree, ViewsAgree}
use Rattle.law_renaming.proofs.Runs.{EndsAgree, alone_agrees, inputs_fit}
use Rattle.law_renaming.proofs.Spaces.{covered_agrees, space_agrees}

-- exits
exits_same : (r : ℕ → ℕ → Bool) (os ps : List Out) → OutsAgree r os ps → exits_in os ≡ exits_in ps
exits_same r [] [] same = refl
exits_same r [] (p ∷ ps) same = absurd same
exits_same r (o ∷ os) [] same = absurd same
exits_same r (out.Exit reason q0 q1 ∷ os) (p ∷ ps) same = rw same.0 (ap (λ (xs : List (ℕ × ℕ)). (reason, q0) ∷ xs) (exits_same r os ps same.1))
exits_same r (out.Byte frame value ∷ os) (p ∷ ps) same = rw same.0.1 (exits_same r os ps same.1)

-- bytes
bytes_same : (r : ℕ → ℕ → Bool) (os ps : List Out) → OutsAgree r os ps → OutsAgree r (filter is_byte os) (filter is_byte ps)
bytes_same r [] [] same = tt
bytes_same r [] (p ∷ ps) same = absurd same
bytes_same r (o ∷ os) [] same = absurd same
bytes_same r (out.Exit reason q0 q1 ∷ os) (p ∷ ps) same =
    subst (λ (x : Out). OutsAgree r (filter is_byte os) (filter is_byte (x ∷ ps))) (sym same.0) (bytes_same r os ps same.1)
bytes_same r (out.Byte frame value ∷ os) (p ∷ ps) same =
    subst (λ (x : Out). OutsAgree r (filter is_byte (out.Byte frame value ∷ os)) (filter is_byte (x ∷ ps))) (sym same.0.1)
    ((same.0.0, refl, same.0.2), bytes_same r os ps same.1)

abbrev frame_of : Out → ℕ
frame_of (out.Byte frame value) = frame
frame_of (out.Exit reason q0 q1) = 0

abbrev value_of : Out → ℕ
value_of (out.Byte frame value) = value
value_of (out.Exit reason q0 q1) = 0

logs_same : (r : ℕ → ℕ → Bool) (m n : ℕ) (xs ys : List LogByte) → OutsAgree r (bytes_of m xs) (bytes_of n ys) → LogsAgree r m n xs ys
logs_same r m n [] [] same = tt
logs_same r m n [] (y ∷ ys) same = absurd same
logs_same r m n (x ∷ xs) [] same = absurd same
logs_same r m n (x ∷ xs) (y ∷ ys) same =
    (record { value = ap value_of same.0.1; stands = subst (Renames r (m + x.console)) (sym (ap frame_of same.0.1)) same.0.2 }, logs_same r m n xs ys same.1)

run_virtual : (k : KernelState) (turns : List ℕ) (g : ℕ) → IsVirtual k g → IsVirtual (run k turns) g
run_virtual k [] g is = is
run_virtual k (cpu ∷ turns) g is = run_virtual (after k cpu) turns g (turn_virtual k cpu g is)

-- two runs
compared : (r : ℕ → ℕ → Bool) (k l : KernelState) (turns others : List ℕ) (g h : ℕ) → IsSound k → AreTwins r k l turns others g h →
    EndsAgree r (view k g) (view l h) (inputs k turns g) (inputs l others h)
compared r k l turns others g h sound twins =
    alone_agrees r twins.one (view k g) (view l h) twins.views (inputs k turns g) (inputs l others h) (inputs_fit k turns g sound) twins.inputs

views_end : (r : ℕ → ℕ → Bool) (k l : KernelState) (turns others : List ℕ) (g h : ℕ) → IsSound k → IsSound l → AreTwins r k l turns others g h →
    GuestsAgree r (view (run k turns) g) (view (run l others) h)
views_end r k l turns others g h sound sound_ twins =
    subst₂ (GuestsAgree r) (sym (run_alone k turns g sound twins.first)) (sym (run_alone l others h sound_ twins.second)) (compared r k l turns others g h sound twins).guests

pub twins_end : (r : ℕ → ℕ → Bool) (k l : KernelState) (turns others : List ℕ) (g h : ℕ) → IsSound k → IsSound l → AreTwins r k l turns others g h → EndAsTwins r k l turns others g h
twins_end r k l turns others g h sound sound_ twins = record {
  views = views_end r k l turns others g h sound sound_ twins;
  outs = outs;
  exits = sym (exits_shown k turns g sound twins.first) ∙ (exits_same r here there outs ∙ exits_shown l others h sound_ twins.second);
  bytes = logs_same r (length k.memory.ram) (length l.memory.ram) (gained k turns g) (gained l others h)
      (subst₂ (OutsAgree r) (bytes_put k turns g sound twins.first) (bytes_put l others h sound_ twins.second) (bytes_same r here there outs));
  spaces = space_is_own (run k turns) g (run_sound k turns sound) (run_virtual k turns g twins.first)
      ∙ (space_agrees r (view (run k turns) g) (view (run l others) h) (views_end r k l turns others g h sound sound_ twins)
      ∙ sym (space_is_own (run l others) h (run_sound l others sound_) (run_virtual l others h twins.second)));
}
  where
    here : List Out
    here = outputs (view k g) (inputs k turns g)

    there : List Out
    there = outputs (view l h) (inputs l others h)

    outs : OutsAgree r here there
    outs = (compared r k l turns others g h sound twins).outs

pub booted_end : (r : ℕ → ℕ → Bool) (s t : Scenario) (before since turns others : List ℕ) (g h : ℕ) → AreTwins r (run (boot s) before) (run (boot t) since) turns others g h →
    EndAsTwins r (run (boot s) before) (run (boot t) since) turns others g h
booted_end r s t before since turns others g h twins =
    twins_end r (run (boot s) before) (run (boot t) since) turns others g h (reached_sound s before) (reached_sound t since) twins

-- CELLS OF VIEWS are the RAM frames that maps lead to, so that the cells of one view tell those of the other
no_frame : (ram : List (List ℕ)) (f : ℕ) → slice_get ram f ≡ None → nat_lt f (length ram) ≡ false
no_frame [] f none = grind arith
no_frame (x ∷ ram) zero none = absurd (cc)
no_frame (x ∷ ram) (suc f) none = grind (arith, no_frame ram f none)

past_frames : (ram : List (List ℕ)) (f : ℕ) → nat_lt f (length ram) ≡ false → slice_get ram f ≡ None
past_frames [] f past = refl
past_frames (x ∷ ram) zero past = absurd (grind (arith, past))
past_frames (x ∷ ram) (suc f) past = past_frames ram f (grind (arith, past))

cells_found : (r : ℕ → ℕ → Bool) (ms ns : List Map) (ram others : List (List ℕ)) → IsRenaming r (length ram) (length others) → MapsAgree r ms ns →
    AreCellsFound r (cells_of ms ram) (cells_of ns others) → CellsAgree r (cells_of ms ram) (cells_of ns others)
cells_found r ms ns ram others renaming maps found a b pair = by_cell (cell_at (cells_of ms ram) a) refl (is_covered ms a) refl
  where
    by_cell : (c : Option (List ℕ)) → cell_at (cells_of ms ram) a ≡ c → (t : Bool) → is_covered ms a ≡ t → cell_at (cells_of ns others) b ≡ cell_at (cells_of ms ram) a
    by_cell (Some bytes) is t covered = found a b bytes pair is ∙ sym is
    by_cell None is false covered =
        cell_of ns others b ∙ (rw (covered_agrees r renaming.one ms ns a b pair maps, covered) (sym is))
    by_cell None is true covered =
        let none : slice_get ram a ≡ None = grind (arith, cell_of ms ram a, covered, is) in
        let past : nat_lt b (length others) ≡ false = renaming.sort a b pair ∙ no_frame ram a none in
        cell_of ns others b ∙ (rw (covered_agrees r renaming.one ms ns a b pair maps, covered) (past_frames others b past ∙ sym is))

pub views_agree : (r : ℕ → ℕ → Bool) (k l : KernelState) (g h : ℕ) → IsRenaming r (length k.memory.ram) (length l.memory.ram) → ViewsAgree r (view k g) (view l h) →
    GuestsAgree r (view k g) (view l h)
unfolding view
views_agree r k l g h renaming same = record {
  regs = same.regs;
  state = same.state;
  recall = same.recall;
  maps = same.maps;
  cells = cells_found r (maps_of (pd_of k g) k.delegations.list) (maps_of (pd_of l h) l.delegations.list) k.memory.ram l.memory.ram renaming same.maps same.cells;
}
