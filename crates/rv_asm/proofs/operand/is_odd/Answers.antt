use Rattle.std.proofs.Common.{◌∙◌, ap, refl}
use Rattle.nova_text.specs.Number.{number, u32_of}
use Rattle.rv_asm.proofs.Odd.{odd_again}
use Rattle.rv_asm.proofs.operand.is_odd.Goals as goal

pub returns-in-Err-TooLarge : goal.returns-in-Err-TooLarge
returns-in-Err-TooLarge c = c.ends_odd.ensures ∙ odd_again c.args.text.now (number c.args.text.now) refl (λ none. let e = c.in-Err-TooLarge.ensures ∙ ap u32_of none in cc)
