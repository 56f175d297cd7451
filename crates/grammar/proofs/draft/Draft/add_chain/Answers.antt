use Rattle.std.proofs.Common.{vec_items, vec_len, sym, ◌∙◌}
use Rattle.std.proofs.lemmas.List.{length-map}
use Rattle.name.specs.Names.{text}
use Rattle.grammar.specs.Meaning.{draft_lists}
use Rattle.grammar.specs.Views.{nonterminal_of}
use Rattle.grammar.proofs.Found.{chain_fits}
use Rattle.grammar.proofs.draft.Draft.add_chain.Goals as goal

pub add_rule-requires : goal.add_rule-requires
add_rule-requires g c h =
    chain_fits (draft_lists c.args.self.now) (vec_len c.args.self.now.declarations.nonterminals)
    (length-map (vec_items c.args.self.now.declarations.nonterminals) nonterminal_of ∙ sym c.args.self.now.declarations.nonterminals.ok.0)
    (text c.args.left) (text c.args.source) c.in_ok-left.left.0 c.in_ok-source.source.0 c.args.cost (text c.args.mnemonic)
    c.in_ok-left.ensures c.in_ok-source.ensures h
