-- What is told of what a search for a state found.
use Rattle.std.proofs.Common.{◌≡◌, ◌∙◌, ◌+◌, ◌<◌, ℕ, List, refl, ap, subst, sym, length, arith}
use Rattle.std.specs.Prelude.{false, Option, Some, None}
use Rattle.std.proofs.lemmas.List.{length-map}
use Rattle.nova_model.specs.Runs.{run}
use Rattle.nova_model.specs.State.{KernelState}
use Rattle.nova_order.specs.Blocks.{IsOrder, turns}
use Rattle.nova_order.specs.declared.block.Block.{Block}
use Rattle.law_alike.specs.Alike.{IsAlike}
use Rattle.nova_search.specs.Merged.{HasOne}
use Rattle.nova_search.specs.Searches.{IsFirst, IsFirstAt, IsWay, state_at, state_of, states_of}
use Rattle.nova_search.specs.declared.exploring.Explored.{Explored}
use Rattle.nova_search.specs.declared.found.Found.{Found}
use Rattle.nova_search.specs.declared.merging.Merging.TheVariants.{Alike}
use Rattle.nova_asking.specs.Answers.{AreEqual, AreSeen, IsAnswer, IsFoundBy, extent_of}
use Rattle.nova_asking.specs.Questions.{IsOfState, ahead, is_so}
use Rattle.nova_asking.specs.Searched.{IsSearch, IsUnfound}
use Rattle.nova_asking.specs.declared.answer.Answer.{Answer}
use Rattle.nova_asking.specs.declared.answer.Answer.TheVariants as answer
use Rattle.nova_asking.specs.declared.extent.Extent.{Extent}
use Rattle.nova_asking.specs.declared.question.Question.{Question}
use Rattle.nova_asking.specs.declared.question.Question.TheVariants as question
use Rattle.nova_asking.proofs.Told.{AreKnown, along, beyond_where_within, found_by, more_where_cut, never_by, seen_in, short_at, way_from}

-- a question on states doesn't look ahead
not_ahead : (q : Question) → IsOfState q → ahead q ≡ 0
not_ahead (question.Console console bytes) is = refl
not_ahead (question.Word frame offset value) is = refl
not_ahead (question.At location) is = refl
not_ahead (question.AtBoth first second) is = refl
not_ahead (question.Stores frame first last) is = refl
not_ahead question.Blocked is = refl
not_ahead question.Dies is = refl
not_ahead (question.DiesOf ec) is = refl
not_ahead (question.DiesBut ec) is = refl
not_ahead (question.Stuck ec) is = refl
not_ahead (question.Hangs turns a) is = absurd is
not_ahead question.Ends is = refl

not_hanging : (q : Question) → IsOfState q → (extent : Extent) (k : KernelState) (limit : ℕ) (found : List Found) → AreEqual q extent k limit found
not_hanging (question.Console console bytes) is extent k limit found = tt
not_hanging (question.Word frame offset value) is extent k limit found = tt
not_hanging (question.At location) is extent k limit found = tt
not_hanging (question.AtBoth first second) is extent k limit found = tt
not_hanging (question.Stores frame first last) is extent k limit found = tt
not_hanging question.Blocked is extent k limit found = tt
not_hanging question.Dies is extent k limit found = tt
not_hanging (question.DiesOf ec) is extent k limit found = tt
not_hanging (question.DiesBut ec) is extent k limit found = tt
not_hanging (question.Stuck ec) is extent k limit found = tt
not_hanging (question.Hangs turns a) is extent k limit found = absurd is
not_hanging question.Ends is extent k limit found = tt

module _ (known : AreKnown) (q : Question) (k : KernelState) (limit most : ℕ) (e : Explored) (found : List Found) (search : IsSearch Alike (is_so q) k limit most e) (of_state : IsOfState q)
    (alike : (s t : KernelState) → IsAlike s t → is_so q s ≡ is_so q t) (same : found ≡ e.found.items) where
  reach : limit ≡ limit + ahead q
  reach = let not = not_ahead q of_state in omega (arith, not)

  isnt : e.goal ≡ None → (order : List ℕ) → HasOne Alike (states_of e.found.items) (run k order) → is_so q (run k order) ≡ false
  isnt none order has =
      sym (alike has.one (run k order) has.is) ∙ subst (λ (o : Option ℕ). IsFirst (is_so q) (states_of e.found.items) o) none search.goal has.one has.there

  pub unfound_by : (a : Answer) (extent : Extent) → e.goal ≡ None → extent ≡ extent_of e.is_over e.is_whole → IsUnfound q found extent a → IsAnswer q k limit most a
  unfound_by (answer.Found order states) extent none is a = absurd a
  unfound_by (answer.Never x states absent) extent none is (kind, many, missing) =
      let its = kind ∙ is in
      never_by known Alike (is_so q) q k limit limit most e found x states absent search reach same
      (record { each = λ order are. isnt none order (along Alike (is_so q) k limit limit most e search (omega arith) x its order are) })
      (along Alike (is_so q) k limit limit most e search (omega arith) x its)
      (more_where_cut Alike (is_so q) k limit limit most e search (omega arith) x none its)
      (beyond_where_within Alike (is_so q) k limit limit most e search (omega arith) x its) many missing
      (λ of s. subst (λ (o : Option ℕ). IsFirst (is_so q) (states_of e.found.items) o) none search.goal s) (not_hanging q of_state x k limit e.found.items)

  pub told_found : (place states : ℕ) (blocks : List Block) → e.goal ≡ Some place → states ≡ length found → IsOrder blocks →
      ((d : KernelState) → IsWay (state_at found 0 d) (state_at found place d) (turns blocks)) → IsFoundBy q k limit blocks states
  told_found place states blocks some many order ways =
      let first : IsFirstAt (is_so q) (states_of e.found.items) place = subst (λ (o : Option ℕ). IsFirst (is_so q) (states_of e.found.items) o) some search.goal in
      let there : place < length e.found.items = let less = first.there in let long = length-map e.found.items state_of in omega (arith, less, long) in
      let way : IsWay k (state_at e.found.items place k) (turns blocks) = way_from k e.found.items place (turns blocks) search.first
      (subst (λ (l : List Found). (d : KernelState) → IsWay (state_at l 0 d) (state_at l place d) (turns blocks)) same ways) k in
      found_by Alike q k limit e.found.items place states blocks alike order
      (subst (λ (n : ℕ). AreSeen k n e.found.items) reach (seen_in Alike (is_so q) k limit limit most e search (omega arith) known)) search.nearest (many ∙ ap length same) there way
      (short_at k limit e.found.items place (turns blocks) search.first search.few there way) (first.passes k) first.none
