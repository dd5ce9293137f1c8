use Rattle.std.proofs.Common.{◌≡◌, ℕ, List, map, string_bytes}
use Rattle.nova_io.proofs.held.hold.Given as goal

abbrev pub invariant-loop-file : goal.invariant-loop-file
invariant-loop-file l = record {
  bytes : map {B = List ℕ × List ℕ} (λ f. (string_bytes f.name, f.store.bytes)) l.held.items ≡ map (λ f. (string_bytes f.name, f.bytes.items)) l.yielded;
  rooms : map {B = List ℕ × ℕ} (λ f. (string_bytes f.name, f.store.room)) l.held.items ≡ map (λ f. (string_bytes f.name, f.room)) l.yielded;
}
