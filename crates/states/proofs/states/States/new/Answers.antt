use Rattle.std.proofs.Common.{◌≡◌, length, sym, ap, ◌∙◌, arith}
use Rattle.covers.specs.Trees.{count}
use Rattle.table.specs.Chains.{room_for}
use Rattle.table.specs.Tables.{room_of}
use Rattle.rows.specs.Meaning.{rows_room, rows_in}
use Rattle.states.proofs.Choosing.{knows_nothing}
use Rattle.states.proofs.states.States.new.Goals as goal

pub returns-clause-knows : goal.returns-clause-knows
returns-clause-knows g c = λ G s n w k r.
    let sizes = c.args.sizes in
    let t = c.new.result in
    let v = c.new-2.result in
    let wide : length c.split_at_mut-work.result.0.now ≡ count G = (let a = c.split_at_mut-work.ensures.front_len in let b = c.min-places.ensures in omega arith) in
    let keys : room_of t ≡ room_for (length c.args.transitions.now) = ap room_for c.new.ensures.memory.length in
    let rows : rows_room v ≡ rows_in (room_for (length c.args.ends.now)) (room_for (length c.args.entries.now)) sizes.nonterminals = (λ i. rows_in (room_for (c.new-2.ensures.ends.length i)) (room_for (c.new-2.ensures.entries.length i)) (c.new-2.ensures.width i)) in
    knows_nothing g.C.Cost.model G record { transitions = t; rows = v; work = c.split_at_mut-work.result.0; most_keys = sizes.keys; most_rows = sizes.rows } s c.new.ensures.keys c.new-2.ensures.rows (c.new-2.ensures.width ∙ sym n) wide (omega arith) (omega arith)
