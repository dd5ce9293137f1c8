use Rattle.std.proofs.Common.{◌≡◌, ◌∙◌, ℕ, List, ◌∷◌, rules, codes, map, string_bytes, Option, Some, Err, Result, ap, sym, subst, option_and_then, option_map}
use Rattle.clap.specs.Matches.{found_of}
use Rattle.clap.specs.Simple.{App}
use Rattle.clap.specs.Walk.{Row, rows_of}
use Rattle.nova_command.specs.CommandFault.{Answers, AnswersBy}
use Rattle.nova_command.specs.Parsing.{rows_given}
use Rattle.nova_command.specs.declared.fault.CommandFault.{CommandFault}
use Rattle.nova_command.specs.declared.fault.CommandFault.TheVariants.{Usage, Memory}
use Rattle.nova_policy.specs.Form.{Given, form, given, given_in}
use Rattle.nova_policy.specs.Words.{asked, asked_of}
use Rattle.nova_policy.specs.declared.request.Request.{Request}
use Rattle.nova_policy.proofs.request.read_request.Goals as goal

-- what gives nothing to the form asks for nothing
unasked : {T : Type 0} (view : T → List Row) (o : Option (List Row)) (fault : CommandFault) → AnswersBy view o (Err fault) → Answers {T = Request} (option_and_then asked_of (option_map given_in o)) (Err fault)
unasked view o Usage none = ap (λ (rows : Option (List Row)). option_and_then asked_of (option_map given_in rows)) none
unasked view o Memory none = tt

pub returns-in_err-matches-clause-exact : goal.returns-in_err-matches-clause-exact
unfolding asked given
returns-in_err-matches-clause-exact c =
    let fault = c.in_err-matches.field-0.0 in
    let is : c.from_residual-in_err-matches.result ≡ Err fault = search rules in
    let words : map (λ word. word.now) c.as_slice.result.now ≡ codes "nova_policy" ∷ map string_bytes c.args.words.now = search rules in
    let none = subst (λ (ws : List (List ℕ)). AnswersBy (λ matches. rows_of (found_of matches)) (rows_given form ws) (Err fault)) words
    (subst (λ (app : App). AnswersBy (λ matches. rows_of (found_of matches)) (rows_given app (map (λ word. word.now) c.as_slice.result.now)) (Err fault)) c.in_ok-form.ensures c.in_err-matches.ensures) in
    subst (λ (r : Result Request CommandFault). Answers (option_and_then asked_of (given (codes "nova_policy" ∷ map string_bytes c.args.words.now))) r) (sym is)
    (unasked (λ matches. rows_of (found_of matches)) (rows_given form (codes "nova_policy" ∷ map string_bytes c.args.words.now)) fault none)

pub returns-clause-exact : goal.returns-clause-exact
unfolding asked given
returns-clause-exact c =
    let given_so : given (map (λ word. word.now) c.as_slice.result.now) ≡ Some (given_in (rows_of (found_of c.in_ok-matches.matches))) =
    ap (option_map given_in) (ap (λ (app : App). rows_given app (map (λ word. word.now) c.as_slice.result.now)) (sym c.in_ok-form.ensures) ∙ c.in_ok-matches.ensures) in
    let words : map (λ word. word.now) c.as_slice.result.now ≡ codes "nova_policy" ∷ map string_bytes c.args.words.now = search rules in
    subst (λ (g : Option Given). Answers (option_and_then asked_of g) c.request_of.result) (sym (ap given (sym words) ∙ given_so)) c.request_of.ensures.exact
