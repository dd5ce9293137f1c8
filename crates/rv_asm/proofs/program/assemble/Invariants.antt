use Rattle.std.proofs.Common.{◌≡◌, true}
use Rattle.std.specs.List.{list_any}
use Rattle.rv_asm.specs.Places.{places_of}
use Rattle.rv_asm.specs.Program.{assembled, says, takes_memory}
use Rattle.rv_asm.proofs.Passes.{rest_words}
use Rattle.rv_asm.proofs.program.assemble.Given as goal

abbrev pub invariant-loop-line : goal.invariant-loop-line
invariant-loop-line l = record {
  words : rest_words (places_of l.labels) l.words.items l.line-iterator ≡ assembled l.text;
  takes : list_any says l.line-iterator ≡ true → takes_memory l.text ≡ true;
}
