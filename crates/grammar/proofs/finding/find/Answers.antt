use Rattle.std.proofs.Common.{rules, ◌∙◌}
use Rattle.std.specs.Str.{bytes_eq}
use Rattle.std.proofs.lemmas.Iterator.{YieldsList-from_slice}
use Rattle.std.proofs.lemmas.Iterator.Adapters.{position_from-zero}
use Rattle.std.proofs.lemmas.Iterator.Search.{position_from_yields_List}
use Rattle.name.specs.Names.{text}
use Rattle.grammar.specs.Drafting.{place_from}
use Rattle.grammar.proofs.finding.find.Goals as goal

pub returns-clause-value : goal.returns-clause-value
unfolding place_from
returns-clause-value g c =
    let has = λ (y : g.row.T.Denot). bytes_eq (g.T.Named.called y) (text c.args.name.now) in
    position_from_yields_List has _ _ c.position.result c.position.ensures.ran
    (YieldsList-from_slice _ c.iter.ensures.rest) (λ x b q k. search rules)
    ∙ position_from-zero has c.args.items.now
