-- Edges that are entered one by one, while states are found behind those that were.
use Rattle.std.proofs.Common.{◌≡◌, ◌⊎◌, ℕ, ◌+◌, ◌<◌, ◌≤◌, List, [], ◌∷◌, ◌++◌, length, refl, ap, sym, subst, ◌∙◌, append_assoc, arith, inl, inr}
use Rattle.std.specs.Prelude.{Contains, slice_index_or}
use Rattle.std.proofs.lemmas.List.{append-nil, length-append, length-map}
use Rattle.std.proofs.lemmas.List.Elements.{Contains-append_left, Contains-push}
use Rattle.nova_model.specs.State.{KernelState}
use Rattle.nova_model.specs.Runs.{after}
use Rattle.nova_compare.specs.Steps.{IsSuccessor}
use Rattle.nova_compare.proofs.Places.{place}
use Rattle.nova_search.specs.declared.edges.Edge.{Edge}
use Rattle.nova_search.specs.declared.found.Found.{Found}
use Rattle.nova_search.specs.declared.merging.Merging.{Merging}
use Rattle.nova_search.specs.declared.merging.Merging.TheVariants.{Alike, Same}
use Rattle.nova_search.specs.Edges.{AreTried, AreTurnsDrawn, AreUpTo, Extends, IsAt, IsEdge, IsLed, IsTried, IsTurnDrawn, edge}
use Rattle.nova_search.specs.Merged.{IsOneAt}
use Rattle.nova_search.specs.Searches.{Grows, IsMore, state_at, state_of, states_of}
use Rattle.nova_search.proofs.Growth.{at_front, grows_by, stays_at, still_at}

pub longer : (xs ys : List KernelState) (turns : ℕ) → Grows xs ys turns → length xs ≤ length ys
longer xs ys turns grows = let whole = ap length grows.whole in let sum = length-append xs grows.more in omega (arith, whole, sum)

pub same_extends : (es : List Edge) → Extends es es
same_extends es = record { more = []; whole = sym (append-nil es) }

pub extends_on : (es fs gs : List Edge) → Extends es fs → Extends fs gs → Extends es gs
extends_on es fs gs first second = record {
  more = first.more ++ second.more;
  whole = second.whole ∙ ap (λ (l : List Edge). l ++ second.more) first.whole ∙ append_assoc es first.more second.more;
}

module _ (xs ys : List KernelState) (turns : ℕ) (grows : Grows xs ys turns) where
  is_at_on : (place : ℕ) (s : KernelState) → IsAt xs place s → IsAt ys place s
  is_at_on place s at = record {
    there = let long = longer xs ys turns grows in let there = at.there in omega (arith, long, there);
    is = λ d. still_at xs ys place d grows at.there ∙ at.is d;
  }

  is_edge_on : (e : Edge) → IsEdge xs e → IsEdge ys e
  is_edge_on e is = record {
    from = let long = longer xs ys turns grows in let there = is.from in omega (arith, long, there);
    to = let long = longer xs ys turns grows in let there = is.to in omega (arith, long, there);
    cpu = is.cpu;
    processor = λ d. subst (λ (s : KernelState). is.cpu < s.cpus) (sym (still_at xs ys e.from d grows is.from)) (is.processor d);
    next = λ d.
        subst (λ (s : KernelState). IsSuccessor s is.cpu (slice_index_or ys e.to d)) (sym (still_at xs ys e.from d grows is.from))
        (subst (λ (t : KernelState). IsSuccessor (slice_index_or xs e.from d) is.cpu t) (sym (still_at xs ys e.to d grows is.to)) (is.next d));
  }

  pub led_on : (es fs : List Edge) (place : ℕ) (t : KernelState) → Extends es fs → IsLed xs es place t → IsLed ys fs place t
  led_on es fs place t extends led = record {
    to = led.to;
    there = subst (λ (l : List Edge). Contains l (edge place led.to)) (sym extends.whole) (Contains-append_left es extends.more (edge place led.to) led.there);
    is = is_at_on led.to t led.is;
  }

  pub tried_on : (es fs : List Edge) (place cpu : ℕ) → Extends es fs → place < length xs → IsTried xs es place cpu → IsTried ys fs place cpu
  tried_on es fs place cpu extends less tried d = by_case (tried d)
    where
      same : slice_index_or ys place d ≡ slice_index_or xs place d
      same = still_at xs ys place d grows less

      by_case : (after (slice_index_or xs place d) cpu ≡ slice_index_or xs place d) ⊎ IsLed xs es place (after (slice_index_or xs place d) cpu)
          → (after (slice_index_or ys place d) cpu ≡ slice_index_or ys place d) ⊎ IsLed ys fs place (after (slice_index_or ys place d) cpu)
      by_case (inl idle) = inl (ap (λ (s : KernelState). after s cpu) same ∙ idle ∙ sym same)
      by_case (inr led) = inr (subst (λ (s : KernelState). IsLed ys fs place (after s cpu)) (sym same) (led_on es fs place (after (slice_index_or xs place d) cpu) extends led))

  pub up_to_on : (es : List Edge) (place : ℕ) → AreUpTo xs es place → AreUpTo ys es place
  up_to_on es place up = record {
    are = record { each = λ i d less. is_edge_on (slice_index_or es i d) (up.are.each i d less); rising = up.are.rising };
    most = up.most;
  }

-- one more
last_at : (es : List Edge) (e d : Edge) → slice_index_or (es ++ e ∷ []) (length es) d ≡ e
last_at [] e d = refl
last_at (x ∷ es) e d = last_at es e d

length_on : (es : List Edge) (e : Edge) → length (es ++ e ∷ []) ≡ length es + 1
length_on [] e = refl
length_on (x ∷ es) e = let is = length_on es e in omega (arith, is)

pub up_to_more : (states : List KernelState) (es : List Edge) (e : Edge) (n : ℕ) → AreUpTo states es n → e.from ≡ n → IsEdge states e → AreUpTo states (es ++ e ∷ []) n
up_to_more states es e n up same is = record {
  are = record {
    each = λ i d less. each_by i d (split i less);
    rising = λ i j d ordered less. rising_by i j d ordered (split i (omega (arith, ordered, less))) (split j less);
  };
  most = λ i d less. most_by i d (split i less);
}
  where
    split : (i : ℕ) → i < length (es ++ e ∷ []) → (i < length es) ⊎ (i ≡ length es)
    split i less = place i (length es) (let long = length_on es e in omega (arith, less, long))

    old : (i : ℕ) (d : Edge) → i < length es → slice_index_or (es ++ e ∷ []) i d ≡ slice_index_or es i d
    old i d less = at_front es (e ∷ []) i d less

    new : (i : ℕ) (d : Edge) → i ≡ length es → slice_index_or (es ++ e ∷ []) i d ≡ e
    new i d last = ap (λ (m : ℕ). slice_index_or (es ++ e ∷ []) m d) last ∙ last_at es e d

    each_by : (i : ℕ) (d : Edge) → (i < length es) ⊎ (i ≡ length es) → IsEdge states (slice_index_or (es ++ e ∷ []) i d)
    each_by i d (inl less) = subst (λ (x : Edge). IsEdge states x) (sym (old i d less)) (up.are.each i d less)
    each_by i d (inr last) = subst (λ (x : Edge). IsEdge states x) (sym (new i d last)) is

    most_by : (i : ℕ) (d : Edge) → (i < length es) ⊎ (i ≡ length es) → (slice_index_or (es ++ e ∷ []) i d).from ≤ n
    most_by i d (inl less) = subst (λ (x : Edge). x.from ≤ n) (sym (old i d less)) (up.most i d less)
    most_by i d (inr last) = subst (λ (x : Edge). x.from ≤ n) (sym (new i d last)) (omega (arith, same))

    rising_by : (i j : ℕ) (d : Edge) → i ≤ j → (i < length es) ⊎ (i ≡ length es) → (j < length es) ⊎ (j ≡ length es) →
        (slice_index_or (es ++ e ∷ []) i d).from ≤ (slice_index_or (es ++ e ∷ []) j d).from
    rising_by i j d ordered first (inr last) =
        let most = most_by i d first in
        let from = ap (λ (x : Edge). x.from) (new j d last) in
        omega (arith, most, from, same)
    rising_by i j d ordered (inl before) (inl less) =
        let one = ap (λ (x : Edge). x.from) (old i d before) in
        let other = ap (λ (x : Edge). x.from) (old j d less) in
        let rising = up.are.rising i j d ordered less in
        omega (arith, one, other, rising)
    rising_by i j d ordered (inr last) (inl less) = absurd (omega (arith, ordered, last, less))

-- where the state at a place has no turn of a processor
pub idle_tried : (xs : List Found) (es : List Edge) (n cpu : ℕ) (s : KernelState) → ((d : KernelState) → state_at xs n d ≡ s) → after s cpu ≡ s → IsTried (states_of xs) es n cpu
idle_tried xs es n cpu s here idle d = inl (ap (λ (x : KernelState). after x cpu) (here d) ∙ idle ∙ sym (here d))

-- where it has, and the state after it was entered
module _ (xs ys : List Found) (es : List Edge) (n cpu to : ℕ) (s t : KernelState) (less : n < length xs) (here : (d : KernelState) → state_at xs n d ≡ s)
    (next : IsSuccessor s cpu t) (there : cpu < s.cpus) (more : IsMore xs n cpu t ys) (at : IsAt (states_of ys) to t) where
  grows : Grows (states_of xs) (states_of ys) (s.turns + 1)
  grows = grows_by xs ys n cpu t (s.turns + 1) more next.turns

  its : (d : KernelState) → state_at ys n d ≡ s
  its = stays_at xs ys n s less grows here

  is_edge : IsEdge (states_of ys) (edge n to)
  is_edge = record {
    from = let long = length-map xs state_of in let longer = longer (states_of xs) (states_of ys) (s.turns + 1) grows in omega (arith, less, long, longer);
    to = at.there;
    cpu = cpu;
    processor = λ d. subst (λ (x : KernelState). cpu < x.cpus) (sym (its d)) there;
    next = λ d.
        subst (λ (x : KernelState). IsSuccessor x cpu (state_at ys to d)) (sym (its d))
        (subst (λ (x : KernelState). IsSuccessor s cpu x) (sym (at.is d)) next);
  }

  pub entered_up_to : AreUpTo (states_of xs) es n → AreUpTo (states_of ys) (es ++ edge n to ∷ []) n
  entered_up_to up = up_to_more (states_of ys) es (edge n to) n (up_to_on (states_of xs) (states_of ys) (s.turns + 1) grows es n up) refl is_edge

  pub entered_tried : IsTried (states_of ys) (es ++ edge n to ∷ []) n cpu
  entered_tried d = inr (subst (λ (x : KernelState). IsLed (states_of ys) (es ++ edge n to ∷ []) n (after x cpu)) (sym (its d)) (record {
    to = to;
    there = Contains-push es (edge n to);
    is = subst (λ (x : KernelState). IsAt (states_of ys) to x) next.state at;
  }))

pub idle_drawn : (xs : List Found) (es : List Edge) (n cpu : ℕ) (s : KernelState) → ((d : KernelState) → state_at xs n d ≡ s) → after s cpu ≡ s →
    IsTurnDrawn (states_of xs) es (states_of xs) es n cpu
idle_drawn xs es n cpu s here idle = record { extends = same_extends es; edges = λ up. up; tried = idle_tried xs es n cpu s here idle }

its_at : (m : Merging) (states : List KernelState) (place : ℕ) (s : KernelState) → m ≡ Same → IsOneAt m states place s → IsAt states place s
its_at Same states place s same at = record { there = at.there; is = at.is }
its_at Alike states place s same at = absurd (cc)

pub entered_drawn : (m : Merging) → m ≡ Same → (xs ys : List Found) (es fs : List Edge) (n cpu to : ℕ) (s t : KernelState) → n < length xs → ((d : KernelState) → state_at xs n d ≡ s) →
    IsSuccessor s cpu t → cpu < s.cpus → IsMore xs n cpu t ys → IsOneAt m (states_of ys) to t → fs ≡ es ++ edge n to ∷ [] → IsTurnDrawn (states_of xs) es (states_of ys) fs n cpu
entered_drawn m same xs ys es fs n cpu to s t less here next there more at pushed = subst (λ (l : List Edge). IsTurnDrawn (states_of xs) es (states_of ys) l n cpu) (sym pushed) (record {
  extends = record { more = edge n to ∷ []; whole = refl };
  edges = entered_up_to xs ys es n cpu to s t less here next there more (its_at m (states_of ys) to t same at);
  tried = entered_tried xs ys es n cpu to s t less here next there more (its_at m (states_of ys) to t same at);
})

-- turns of the processors so far, and of one more
pub tried_more : (xs ys : List KernelState) (turns : ℕ) (es fs : List Edge) (n cpu : ℕ) → Grows xs ys turns → Extends es fs → n < length xs → AreTried cpu xs es n →
    IsTried ys fs n cpu → AreTried (cpu + 1) ys fs n
tried_more xs ys turns es fs n cpu grows extends less tried new c few = by_place (place c cpu few)
  where
    by_place : (c < cpu) ⊎ (c ≡ cpu) → IsTried ys fs n c
    by_place (inl before) = tried_on xs ys turns grows es fs n c extends less (tried c before)
    by_place (inr last) = subst (λ (m : ℕ). IsTried ys fs n m) (sym last) new

pub all_tried_on : (xs ys : List KernelState) (turns : ℕ) (es fs : List Edge) (n cpus : ℕ) → Grows xs ys turns → Extends es fs → n < length xs → AreTried cpus xs es n →
    AreTried cpus ys fs n
all_tried_on xs ys turns es fs n cpus grows extends less tried cpu few = tried_on xs ys turns grows es fs n cpu extends less (tried cpu few)

-- turns of no processor, and of one more
pub none_drawn : (xs : List KernelState) (es : List Edge) (n : ℕ) → AreTurnsDrawn xs es xs es n 0
none_drawn xs es n = record { extends = same_extends es; edges = λ up. up; tried = λ cpu less. absurd (omega (arith, less)) }

pub drawn_on : (xs ys zs : List KernelState) (turns : ℕ) (es fs gs : List Edge) (n cpu : ℕ) → Grows ys zs turns → n < length ys → AreTurnsDrawn xs es ys fs n cpu →
    IsTurnDrawn ys fs zs gs n cpu → AreTurnsDrawn xs es zs gs n (cpu + 1)
drawn_on xs ys zs turns es fs gs n cpu grows less so_far new = record {
  extends = extends_on es fs gs so_far.extends new.extends;
  edges = λ up. new.edges (so_far.edges up);
  tried = tried_more ys zs turns fs gs n cpu grows new.extends less so_far.tried new.tried;
}
