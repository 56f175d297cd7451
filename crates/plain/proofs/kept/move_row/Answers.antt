use Rattle.std.proofs.Common.{◌≡◌, ◌<◌, ◌≤◌, ◌+◌, ◌-◌, ◌*◌, length, rules}
use Rattle.plain.proofs.Moving.{row_moved}
use Rattle.plain.proofs.kept.move_row.Goals as goal

pub returns-in-Some : goal.returns-in-Some
returns-in-Some g c =
    let n = length c.args.newest.now in
    let some : 0 < c.args.number = search rules in
    let place : c.in-Some.start ≡ (c.args.number - 1) * n = search rules in
    let fits : c.in-Some.start + n ≤ length c.args.rows.now = search rules in
    row_moved c.args.newest.now c.args.number c.args.rows.now c.in-Some.start _ c.copy_from_slice.new.self some place fits c.copy_from_slice.ensures.after
