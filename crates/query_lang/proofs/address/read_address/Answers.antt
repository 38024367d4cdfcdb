use Rattle.std.proofs.Common.{sym}
use Rattle.std.specs.List.{slice_split}
use Rattle.dn_formats.specs.Decimal.{is_dot}
use Rattle.query_lang.proofs.Addresses.{parts_more, slice_split-some}
use Rattle.query_lang.proofs.address.read_address.Goals as goal

pub returns-in-Some : goal.returns-in-Some
returns-in-Some c =
    sym (parts_more (slice_split is_dot c.args.text.now) (slice_split is_dot c.in_ok-first.rest.now) (slice_split is_dot c.in_ok-second.rest.now) (slice_split is_dot c.in_ok-third.rest.now)
    c.in_ok-first.first.now c.in_ok-second.second.now c.in_ok-third.third.now c.in-Some.field-0-0.now (slice_split is_dot c.in-Some.field-0-1.now)
    (slice_split-some is_dot c.in-Some.field-0-1.now) c.in_ok-first.ensures c.in_ok-second.ensures c.in_ok-third.ensures c.in-Some.ensures)
