use Rattle.std.proofs.Common.{◌≡◌, ℕ, List, Option, Some, None, refl, sym, ap, ◌∙◌, rules}
use mathlib.Core.Path.{fun_ext}
use Rattle.std.specs.Map.{update}
use Rattle.std.specs.Str.{bytes_eq}
use Rattle.std.proofs.lemmas.Map.Text.{hash_map_updates_str}
use Rattle.rv_asm.specs.Program.{added}
use Rattle.rv_asm.specs.Operand.{Labels}
use Rattle.rv_asm.specs.Places.{places_of}
use Rattle.rv_asm.specs.declared.label.Label.{Label}
use Rattle.rv_asm.proofs.label.Labels.add.Goals as goal

-- a name that has no label yet
new_name : (labels after : Labels) (name : List ℕ) (label : Label) (old : Option Label) → labels name ≡ old → old ≡ None → ((q : List ℕ) → after q ≡ update bytes_eq labels name (Some label) q) → after ≡ added labels name label (labels name)
new_name labels after name label old e none each = fun_ext each ∙ sym (ap (added labels name label) (e ∙ none))

pub returns-in_ok-insert-clause-added : goal.returns-in_ok-insert-clause-added
returns-in_ok-insert-clause-added c =
    new_name (places_of c.args.self.now) _ c.args.name.now c.args.label _ refl (search rules)
    (hash_map_updates_str c.args.name.now c.args.self.now.places c.insert.new.self _ c.in_ok-insert.ensures.updates)
