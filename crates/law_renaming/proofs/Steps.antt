-- One input leaves guests that agree but for the frames so, and both put out the same but for the frames.
use Rattle.std.proofs.Common.{◌≡◌, ℕ, ◌/◌, ◌%◌, ◌^◌, ◌≤◌, ◌==◌, List, [], ◌∷◌, length, ap, ap₂, sym, ◌∙◌, subst, subst₂, refl}
use Rattle.std.specs.Prelude.{Bool, true, false, not, ◌||◌, nat_lt, Option, Some, None, if◌then◌else◌}
use Rattle.std.specs.List.{filter, list_any}
use Rattle.rv_model.specs.Step.{Once, Raised, Went, Store, one}
use Rattle.nova_range.specs.Rights.{write_right}
use Rattle.nova_range.specs.declared.mtd.Mtd.{Mtd}
use Rattle.nova_guest.specs.Alone.{Told, acted, applied, byte_out, died, given, guest_space, raised, ran, replied, sent, stepped, stored, stored_at, taken, told, with_map, with_maps, written, written_back}
use Rattle.nova_guest.specs.Cells.{cell_at, page_size}
use Rattle.nova_guest.specs.Frames.{frame_from}
use Rattle.nova_guest.specs.Keyed.{placed}
use Rattle.nova_guest.specs.Maps.{base_of, is_covered, is_map, overlaps, page_in}
use Rattle.nova_guest.specs.declared.guest.Guest.{Guest}
use Rattle.nova_guest.specs.declared.guest.GuestState.{GuestState}
use Rattle.nova_guest.specs.declared.guest.GuestState.TheVariants.{Fresh, Ready, Exit, Waiting, Dead}
use Rattle.nova_guest.specs.declared.input.Input.{Input}
use Rattle.nova_guest.specs.declared.input.Input.TheVariants.{Own, Reply, Recall, Given, Taken, Foreign, Sent, Died}
use Rattle.nova_guest.specs.declared.input.Out.{Out}
use Rattle.nova_guest.specs.declared.input.Out.TheVariants as out
use Rattle.nova_guest.specs.declared.map.Map.{Map}
use Rattle.law_renaming.specs.Renamings.{InputFits, GuestsAgree, InputAgrees, IsOneToOne, MapAgrees, MapsAgree, OutAgrees, Renames}
use Rattle.law_renaming.proofs.Contents.{filtered_agrees, given_agrees, stored_agrees}
use Rattle.law_renaming.proofs.Spaces.{FramesAgree, covered_agrees, frame_agrees, space_agrees}

-- MAPS THAT COME AND GO
overlaps_agree : (r : ℕ → ℕ → Bool) (ms ns : List Map) (base order : ℕ) → MapsAgree r ms ns → list_any (overlaps base order) ns ≡ list_any (overlaps base order) ms
overlaps_agree r [] [] base order same = refl
overlaps_agree r [] (n ∷ ns) base order same = absurd same
overlaps_agree r (m ∷ ms) [] base order same = absurd same
overlaps_agree r (m ∷ ms) (n ∷ ns) base order same = rw (same.0.base, same.0.order, overlaps_agree r ms ns base order same.1) refl

placed_agrees : (r : ℕ → ℕ → Bool) (m n : Map) (ms ns : List Map) → MapAgrees r m n → MapsAgree r ms ns → MapsAgree r (placed base_of m ms) (placed base_of n ns)
placed_agrees r m n [] [] first same = (first, tt)
placed_agrees r m n [] (y ∷ ys) first same = absurd same
placed_agrees r m n (x ∷ xs) [] first same = absurd same
placed_agrees r m n (x ∷ xs) (y ∷ ys) first same =
    subst₂ (λ (l e : Bool). MapsAgree r (placed base_of m (x ∷ xs)) (if l then n ∷ (y ∷ ys) else (if e then y ∷ ys else y ∷ placed base_of n ys)))
    (sym (ap₂ nat_lt first.base same.0.base)) (sym (ap₂ (λ (a b : ℕ). a == b) first.base same.0.base))
    (by_tests (nat_lt m.base x.base) (m.base == x.base) (placed_agrees r m n xs ys first same.1))
  where
    by_tests : (less equal : Bool) → MapsAgree r (placed base_of m xs) (placed base_of n ys) →
        MapsAgree r (if less then m ∷ (x ∷ xs) else (if equal then x ∷ xs else x ∷ placed base_of m xs)) (if less then n ∷ (y ∷ ys) else (if equal then y ∷ ys else y ∷ placed base_of n ys))
    by_tests true equal rest = (first, same)
    by_tests false true rest = same
    by_tests false false rest = (same.0, rest)

is_map_same : (r : ℕ → ℕ → Bool) (m n : Map) (base order : ℕ) → MapAgrees r m n → is_map base order n ≡ is_map base order m
is_map_same r m n base order same = rw (same.base, same.order) refl

filter_agrees : (r : ℕ → ℕ → Bool) (ms ns : List Map) (base order : ℕ) → MapsAgree r ms ns → MapsAgree r (filter (λ m. not (is_map base order m)) ms) (filter (λ m. not (is_map base order m)) ns)
filter_agrees r [] [] base order same = tt
filter_agrees r [] (n ∷ ns) base order same = absurd same
filter_agrees r (m ∷ ms) [] base order same = absurd same
filter_agrees r (m ∷ ms) (n ∷ ns) base order same = rw (is_map_same r m n base order same.0) (by_test (not (is_map base order m)) (filter_agrees r ms ns base order same.1))
  where
    by_test : (t : Bool) → MapsAgree r (filter (λ m. not (is_map base order m)) ms) (filter (λ m. not (is_map base order m)) ns) →
        MapsAgree r (if t then m ∷ filter (λ m. not (is_map base order m)) ms else filter (λ m. not (is_map base order m)) ms) (if t then n ∷ filter (λ m. not (is_map base order m)) ns else filter (λ m. not (is_map base order m)) ns)
    by_test true rest = (same.0, rest)
    by_test false rest = rest

any_map_agrees : (r : ℕ → ℕ → Bool) (ms ns : List Map) (base order : ℕ) → MapsAgree r ms ns → list_any (is_map base order) ns ≡ list_any (is_map base order) ms
any_map_agrees r [] [] base order same = refl
any_map_agrees r [] (n ∷ ns) base order same = absurd same
any_map_agrees r (m ∷ ms) [] base order same = absurd same
any_map_agrees r (m ∷ ms) (n ∷ ns) base order same = ap₂ (λ (a b : Bool). a || b) (is_map_same r m n base order same.0) (any_map_agrees r ms ns base order same.1)

-- WHAT AN INPUT LEAVES, AND WHAT IT PUTS OUT
abbrev pub PutsAgree : (ℕ → ℕ → Bool) → Option Out → Option Out → Type 0
PutsAgree r None None = Unit {0}
PutsAgree r (Some o) (Some p) = OutAgrees r o p
PutsAgree r o p = ⊥

pub record ToldAgrees (r : ℕ → ℕ → Bool) (a b : Told) : Type 0 where
  pub guest : GuestsAgree r a.guest b.guest
  pub out : PutsAgree r a.out b.out

with_regs : (r : ℕ → ℕ → Bool) (u v : Guest) → GuestsAgree r u v → (regs : _) → GuestsAgree r (record u { regs = regs }) (record v { regs = regs })
with_regs r u v same regs = record { regs = refl; state = same.state; recall = same.recall; maps = same.maps; cells = same.cells }

with_state : (r : ℕ → ℕ → Bool) (u v : Guest) → GuestsAgree r u v → (s : GuestState) → GuestsAgree r (record u { state = s }) (record v { state = s })
with_state r u v same s = record { regs = same.regs; state = refl; recall = same.recall; maps = same.maps; cells = same.cells }

-- a turn of its own
raise_agrees : (r : ℕ → ℕ → Bool) (u v : Guest) → GuestsAgree r u v → (reason q0 q1 : ℕ) → ToldAgrees r (raised u reason q0 q1) (raised v reason q0 q1)
raise_agrees r u v same reason q0 q1 = record { guest = with_state r u v same (Exit reason q0 q1); out = refl }

byte_agrees : (r : ℕ → ℕ → Bool) (frame new offset value : ℕ) → Renames r frame new → PutsAgree r (byte_out frame offset value) (byte_out new offset value)
byte_agrees r frame new offset value stands = by_test (offset == 0)
  where
    by_test : (t : Bool) → PutsAgree r (if t then Some (out.Byte frame (value % 256)) else None) (if t then Some (out.Byte new (value % 256)) else None)
    by_test true = (new, refl, stands)
    by_test false = tt

written_agrees : (r : ℕ → ℕ → Bool) → IsOneToOne r → (u v : Guest) → GuestsAgree r u v → (frame new o w value : ℕ) → Renames r frame new → (c : Option (List ℕ)) →
    ToldAgrees r (written u frame o w value c) (written v new o w value c)
written_agrees r one u v same frame new o w value stands (Some b) = record {
  guest = record { regs = same.regs; state = same.state; recall = same.recall; maps = same.maps; cells = stored_agrees r one u.cells v.cells frame new o w value stands same.cells };
  out = tt;
}
written_agrees r one u v same frame new o w value stands None = record { guest = same; out = byte_agrees r frame new o value stands }

put_agrees : (r : ℕ → ℕ → Bool) → IsOneToOne r → (u v : Guest) → GuestsAgree r u v → (s : Store) (a b : Option ℕ) → FramesAgree r a b → ToldAgrees r (stored_at u s a) (stored_at v s b)
put_agrees r one u v same s None None frames = record { guest = same; out = tt }
put_agrees r one u v same s None (Some b) frames = absurd frames
put_agrees r one u v same s (Some a) None frames = absurd frames
put_agrees r one u v same s (Some a) (Some b) frames =
    subst (λ (c : Option (List ℕ)). ToldAgrees r (stored_at u s (Some a)) (written v b (s.address % 4096) s.width s.value c)) (sym (same.cells a b frames))
    (written_agrees r one u v same a b (s.address % 4096) s.width s.value frames (cell_at u.cells a))

store_agrees : (r : ℕ → ℕ → Bool) → IsOneToOne r → (u v : Guest) → GuestsAgree r u v → (store : Option Store) → ToldAgrees r (stored u store) (stored v store)
store_agrees r one u v same None = record { guest = same; out = tt }
store_agrees r one u v same (Some s) =
    put_agrees r one u v same s (frame_from (page_in u.maps) write_right s.address) (frame_from (page_in v.maps) write_right s.address)
    (frame_agrees r u.maps v.maps write_right s.address same.maps)

step_agrees : (r : ℕ → ℕ → Bool) → IsOneToOne r → (u v : Guest) → GuestsAgree r u v → (o : Once) → ToldAgrees r (stepped u o) (stepped v o)
step_agrees r one u v same (Raised reason q0 q1) = raise_agrees r u v same reason q0 q1
step_agrees r one u v same (Went regs store) = store_agrees r one (record u { regs = regs }) (record v { regs = regs }) (with_regs r u v same regs) store

run_agrees : (r : ℕ → ℕ → Bool) → IsOneToOne r → (u v : Guest) → GuestsAgree r u v → (recall : Bool) → ToldAgrees r (ran u recall) (ran v recall)
run_agrees r one_ u v same true =
    record { guest = record { regs = same.regs; state = refl; recall = refl; maps = same.maps; cells = same.cells }; out = refl }
run_agrees r one_ u v same false =
    subst (λ (o : Once). ToldAgrees r (stepped u (one u.regs (guest_space u.maps u.cells))) (stepped v o))
    (sym (ap₂ one same.regs (sym (space_agrees r u v same)))) (step_agrees r one_ u v same (one u.regs (guest_space u.maps u.cells)))

act_agrees : (r : ℕ → ℕ → Bool) → IsOneToOne r → (u v : Guest) → GuestsAgree r u v → (s : GuestState) → ToldAgrees r (acted u s) (acted v s)
act_agrees r one u v same Fresh = raise_agrees r u v same 0 0 0
act_agrees r one u v same Ready = subst (λ (b : Bool). ToldAgrees r (ran u u.recall) (ran v b)) (sym same.recall) (run_agrees r one u v same u.recall)
act_agrees r one u v same other = record { guest = same; out = tt }

-- what comes to it
sent_agrees : (r : ℕ → ℕ → Bool) (u v : Guest) → GuestsAgree r u v → (s : GuestState) → GuestsAgree r (sent u s) (sent v s)
sent_agrees r u v same (Exit reason q0 q1) = with_state r u v same Waiting
sent_agrees r u v same other = same

died_agrees : (r : ℕ → ℕ → Bool) (u v : Guest) → GuestsAgree r u v → (s : GuestState) → GuestsAgree r (died u s) (died v s)
died_agrees r u v same (Exit reason q0 q1) = with_state r u v same Dead
died_agrees r u v same Waiting = with_state r u v same Dead
died_agrees r u v same other = same

replied_agrees : (r : ℕ → ℕ → Bool) (u v : Guest) → GuestsAgree r u v → (mtd : Mtd) (words : List ℕ) (s : GuestState) → GuestsAgree r (replied u mtd words s) (replied v mtd words s)
replied_agrees r u v same mtd words Waiting = record { regs = ap (written_back mtd words) same.regs; state = refl; recall = same.recall; maps = same.maps; cells = same.cells }
replied_agrees r u v same mtd words other = same

given_guest_agrees : (r : ℕ → ℕ → Bool) → IsOneToOne r → (u v : Guest) → GuestsAgree r u v → (m n : Map) (contents : List ℕ) → MapAgrees r m n →
    length contents / page_size ≤ 2 ^ m.order → GuestsAgree r (given u m contents) (given v n contents)
given_guest_agrees r one u v same m n contents stands fits =
    subst (λ (t : Bool). GuestsAgree r (given u m contents) (if t then v else with_map v n contents))
    (sym (ap₂ (λ (b o : ℕ). list_any (overlaps b o) v.maps) stands.base stands.order ∙ overlaps_agree r u.maps v.maps m.base m.order same.maps))
    (by_test (list_any (overlaps m.base m.order) u.maps))
  where
    by_test : (t : Bool) → GuestsAgree r (if t then u else with_map u m contents) (if t then v else with_map v n contents)
    by_test true = same
    by_test false = record {
      regs = same.regs;
      state = same.state;
      recall = same.recall;
      maps = placed_agrees r m n u.maps v.maps stands same.maps;
      cells = given_agrees r one u.cells v.cells m.order m.frame n.frame contents fits stands.frames same.cells;
    }

taken_agrees : (r : ℕ → ℕ → Bool) → IsOneToOne r → (u v : Guest) → GuestsAgree r u v → (base order : ℕ) → GuestsAgree r (taken u base order) (taken v base order)
taken_agrees r one u v same base order =
    rw (any_map_agrees r u.maps v.maps base order same.maps) (by_test (list_any (is_map base order) u.maps))
  where
    by_test : (t : Bool) → GuestsAgree r (if t then with_maps u (filter (λ m. not (is_map base order m)) u.maps) else u) (if t then with_maps v (filter (λ m. not (is_map base order m)) v.maps) else v)
    by_test false = same
    by_test true =
        let left : MapsAgree r (filter (λ m. not (is_map base order m)) u.maps) (filter (λ m. not (is_map base order m)) v.maps) = filter_agrees r u.maps v.maps base order same.maps in record {
          regs = same.regs;
          state = same.state;
          recall = same.recall;
          maps = left;
          cells = filtered_agrees r (is_covered (filter (λ m. not (is_map base order m)) u.maps)) (is_covered (filter (λ m. not (is_map base order m)) v.maps)) u.cells v.cells
              (λ g h pair. covered_agrees r one (filter (λ m. not (is_map base order m)) u.maps) (filter (λ m. not (is_map base order m)) v.maps) g h pair left) same.cells;
        }

by_state : (r : ℕ → ℕ → Bool) (u v : Guest) (F : Guest → GuestState → Guest) → v.state ≡ u.state → GuestsAgree r (F u u.state) (F v u.state) → ToldAgrees r (told (F u u.state) None) (told (F v v.state) None)
by_state r u v F same h = record { guest = subst (λ (s : GuestState). GuestsAgree r (F u u.state) (F v s)) (sym same) h; out = tt }

-- an input that agrees, of the second guest
to_input : (r : ℕ → ℕ → Bool) (a : Told) (v : Guest) (i j : Input) → j ≡ i → ToldAgrees r a (applied v i) → ToldAgrees r a (applied v j)
to_input r a v i j e h = subst (λ (k : Input). ToldAgrees r a (applied v k)) (sym e) h

pub apply_agrees : (r : ℕ → ℕ → Bool) → IsOneToOne r → (u v : Guest) → GuestsAgree r u v → (i j : Input) → InputFits i → InputAgrees r i j → ToldAgrees r (applied u i) (applied v j)
unfolding applied
apply_agrees r one u v same Own j is h =
    to_input r (applied u Own) v Own j h (subst (λ (s : GuestState). ToldAgrees r (acted u u.state) (acted v s)) (sym same.state) (act_agrees r one u v same u.state))
apply_agrees r one u v same Sent j is h = to_input r (applied u Sent) v Sent j h (by_state r u v sent same.state (sent_agrees r u v same u.state))
apply_agrees r one u v same Died j is h = to_input r (applied u Died) v Died j h (by_state r u v died same.state (died_agrees r u v same u.state))
apply_agrees r one u v same (Reply mtd words) j is h =
    to_input r (applied u (Reply mtd words)) v (Reply mtd words) j h (by_state r u v (λ g s. replied g mtd words s) same.state (replied_agrees r u v same mtd words u.state))
apply_agrees r one u v same Recall j is h =
    to_input r (applied u Recall) v Recall j h (record { guest = record { regs = same.regs; state = same.state; recall = refl; maps = same.maps; cells = same.cells }; out = tt })
apply_agrees r one u v same (Given base order rights frame contents) j is h =
    to_input r (applied u (Given base order rights frame contents)) v (Given base order rights h.0 contents) j h.1 (record {
      guest = given_guest_agrees r one u v same (record { base = base; order = order; rights = rights; frame = frame }) (record { base = base; order = order; rights = rights; frame = h.0 }) contents
          (record { base = refl; order = refl; rights = refl; frames = h.2 }) is;
      out = tt;
    })
apply_agrees r one u v same (Taken base order) j is h = to_input r (applied u (Taken base order)) v (Taken base order) j h (record { guest = taken_agrees r one u v same base order; out = tt })
apply_agrees r one u v same (Foreign frame offset width value) j is h =
    to_input r (applied u (Foreign frame offset width value)) v (Foreign h.0 offset width value) j h.1 (record {
      guest = record { regs = same.regs; state = same.state; recall = same.recall; maps = same.maps; cells = stored_agrees r one u.cells v.cells frame h.0 offset width value h.2 same.cells };
      out = tt;
    })
