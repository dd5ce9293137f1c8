use Rattle.std.proofs.Common.{rules, ◌≡◌, ◌<◌, ◌≤◌, ◌+◌, length, take, refl, subst, sym}
use Rattle.std.specs.Prelude.{Bool, Result, Err}
use Rattle.nova_io.specs.Fetched.{IsNext, IsNextPiece}
use Rattle.nova_io.specs.declared.faults.FetchFault.{FetchFault}
use Rattle.nova_io.specs.declared.faults.FetchFault.TheVariants.{Failed, Memory}
use Rattle.nova_io.proofs.Pieces.{next-piece}
use Rattle.nova_io.proofs.whole.fetch_piece.Goals as goal

pub returns-in_err-count-clause-next : goal.returns-in_err-count-clause-next
returns-in_err-count-clause-next g c =
    let is : c.from_residual.result ≡ Err Failed = search rules in
    let at : c.len-at.result ≡ length c.args.bytes.now.items = search rules in
    let some : 0 < length c.fetch.new.buf = search rules in
    subst (λ (r : Result Bool FetchFault). IsNext g.D.Depot.gave g.D.Depot.fetch_failed (g.D.Depot.files c.args.depot.now) c.args.name.now c.args.most c.args.depot.now c.args.bytes.now.items c.fetch.new.self c.args.bytes.now.items r) (sym is)
    (length c.fetch.new.buf, some, subst (λ n. g.D.Depot.fetch_failed c.args.depot.now c.args.name.now n (length c.fetch.new.buf) c.fetch.new.self) at c.in_err-count.ensures.fetch_failed)

pub returns-then-count-eq0-clause-next : goal.returns-then-count-eq0-clause-next
returns-then-count-eq0-clause-next g c =
    let at : c.len-at.result ≡ length c.args.bytes.now.items = search rules in
    let some : 0 < length c.fetch.new.buf = search rules in
    let few : length c.args.bytes.now.items + length c.fetch.new.buf ≤ c.args.most + 1 = search rules in
    let piece = next-piece g.D.Depot.gave (g.D.Depot.files c.args.depot.now) c.args.name.now c.args.most c.args.depot.now c.fetch.new.self c.args.bytes.now.items c.fetch.new.buf c.in_ok-count.count _ at some few c.in_ok-count.ensures.within
    c.in_ok-count.ensures.gave c.in_ok-count.ensures.there c.in_ok-count.ensures.piece in
    (subst (λ n. IsNextPiece g.D.Depot.gave (g.D.Depot.files c.args.depot.now) c.args.name.now c.args.most c.args.depot.now c.args.bytes.now.items (take n c.fetch.new.buf) c.fetch.new.self) c.if-count-eq0.true piece, refl)

pub returns-in_err-extend_from_slice-clause-next : goal.returns-in_err-extend_from_slice-clause-next
returns-in_err-extend_from_slice-clause-next g c =
    let is : c.from_residual-in_err-extend_from_slice.result ≡ Err Memory = search rules in
    let at : c.len-at.result ≡ length c.args.bytes.now.items = search rules in
    let some : 0 < length c.fetch.new.buf = search rules in
    let few : length c.args.bytes.now.items + length c.fetch.new.buf ≤ c.args.most + 1 = search rules in
    let any : 0 < length (take c.in_ok-count.count c.fetch.new.buf) = search rules in
    subst (λ (r : Result Bool FetchFault). IsNext g.D.Depot.gave g.D.Depot.fetch_failed (g.D.Depot.files c.args.depot.now) c.args.name.now c.args.most c.args.depot.now c.args.bytes.now.items c.fetch.new.self c.extend_from_slice.new.self.items r) (sym is) (
      take c.in_ok-count.count c.fetch.new.buf,
      next-piece g.D.Depot.gave (g.D.Depot.files c.args.depot.now) c.args.name.now c.args.most c.args.depot.now c.fetch.new.self c.args.bytes.now.items c.fetch.new.buf c.in_ok-count.count _ at some few c.in_ok-count.ensures.within
          c.in_ok-count.ensures.gave c.in_ok-count.ensures.there c.in_ok-count.ensures.piece,
      any,
    )

pub returns-clause-next : goal.returns-clause-next
returns-clause-next g c =
    let at : c.len-at.result ≡ length c.args.bytes.now.items = search rules in
    let some : 0 < length c.fetch.new.buf = search rules in
    let few : length c.args.bytes.now.items + length c.fetch.new.buf ≤ c.args.most + 1 = search rules in
    let any : 0 < length (take c.in_ok-count.count c.fetch.new.buf) = search rules in (
      take c.in_ok-count.count c.fetch.new.buf,
      next-piece g.D.Depot.gave (g.D.Depot.files c.args.depot.now) c.args.name.now c.args.most c.args.depot.now c.fetch.new.self c.args.bytes.now.items c.fetch.new.buf c.in_ok-count.count _ at some few c.in_ok-count.ensures.within
          c.in_ok-count.ensures.gave c.in_ok-count.ensures.there c.in_ok-count.ensures.piece,
      any,
      c.in_ok-extend_from_slice.ensures.items,
    )
