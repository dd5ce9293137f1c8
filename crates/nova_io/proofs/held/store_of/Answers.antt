use Rattle.std.proofs.Common.{string_bytes, sym, ◌∙◌, ap}
use Rattle.std.specs.Option.{option_map}
use Rattle.nova_io.proofs.Places.{get-at, get-none}
use Rattle.nova_io.proofs.held.store_of.Goals as goal

pub returns-in_err-place : goal.returns-in_err-place
returns-in_err-place c =
    ap (option_map (λ store. store.now.bytes)) c.from_residual.ensures
    ∙ sym (get-none (λ f. string_bytes f.name) (λ f. f.store.bytes) c.args.name.now c.args.files.now (sym c.in_err-place.ensures))

pub returns : goal.returns
returns c =
    sym (get-at (λ f. string_bytes f.name) (λ f. f.store.bytes) c.args.name.now c.args.files.now c.in_ok-place.place _ (sym c.in_ok-place.ensures))
