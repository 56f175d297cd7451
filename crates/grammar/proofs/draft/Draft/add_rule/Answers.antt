use Rattle.std.proofs.Common.{sym, ap, ◌∙◌}
use Rattle.grammar.specs.Lists.{Lists}
use Rattle.grammar.specs.Views.{rule_of}
use Rattle.grammar.proofs.Pricing.{priced_rule}
use Rattle.grammar.proofs.draft.Draft.add_rule.Goals as goal

pub invariant_of-self : goal.invariant_of-self
invariant_of-self g c = record {
  priced = priced_rule g.C.Cost.model _ _ (rule_of c.args.rule) (ap (λ (G : Lists g.row.C.Denot). G.rules) c.push_rule.ensures) (sym c.is_unpriced.ensures ∙ c.if-is_unpriced.false) c.args.self.now.priced;
}
