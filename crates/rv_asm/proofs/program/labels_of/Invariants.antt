use Rattle.std.proofs.Common.{◌≡◌, true}
use Rattle.std.specs.List.{list_any}
use Rattle.rv_asm.specs.Places.{places_of}
use Rattle.rv_asm.specs.Program.{labels_of, says, takes_memory}
use Rattle.rv_asm.proofs.Passes.{BeginsFrom, labels_from}
use Rattle.rv_asm.proofs.program.labels_of.Given as goal

abbrev pub invariant-loop-line : goal.invariant-loop-line
invariant-loop-line l = record {
  labels : labels_from (places_of l.labels) l.place l.line-iterator ≡ labels_of l.text;
  takes : list_any says l.line-iterator ≡ true → takes_memory l.text ≡ true;
  begins : BeginsFrom l.place l.line-iterator;
}
