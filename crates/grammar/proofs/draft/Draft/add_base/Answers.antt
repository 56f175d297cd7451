use Rattle.std.proofs.Common.{◌≡◌, ℕ, ◌+◌, length, Ok, Option, vec_items, vec_len, sym, ap, ◌∙◌}
use Rattle.std.proofs.lemmas.List.{length-map}
use Rattle.std.specs.Option.{option_map}
use Rattle.name.specs.Names.{text}
use Rattle.cost.specs.Model.{Model}
use Rattle.name.specs.Outcomes.{map_ok}
use Rattle.grammar.specs.Drafting.{base_form, find_nonterminal, find_operator, find_kid, kids_of, add_rule, add_base, lists_after}
use Rattle.grammar.specs.Lists.{Text, FormOf, Lists}
use Rattle.grammar.specs.declared.refusal.Part.TheVariants.{Left, FirstKid, SecondKid}
use Rattle.grammar.specs.Answers.{kid_text}
use Rattle.grammar.specs.Meaning.{draft_lists}
use Rattle.grammar.specs.Views.{nonterminal_of, form_of}
use Rattle.grammar.proofs.Found.{base_rule_fits}
use Rattle.grammar.proofs.draft.Draft.add_base.Goals as goal

pub add_rule-requires : goal.add_rule-requires
add_rule-requires g c h =
    base_rule_fits (draft_lists c.args.self.now) (vec_len c.args.self.now.declarations.nonterminals)
    (length-map (vec_items c.args.self.now.declarations.nonterminals) nonterminal_of ∙ sym c.args.self.now.declarations.nonterminals.ok.0)
    (text c.args.left) (text c.args.operator) (kid_text c.args.kids.first) (kid_text c.args.kids.second)
    c.in_ok-left.left.0 c.in_ok-operator.operator.0 (option_map (λ n. n.0) c.in_ok-first.first) (option_map (λ n. n.0) c.in_ok-second.second)
    (form_of c.in_ok-form.form) c.args.cost (text c.args.mnemonic) c.args.self.now.declarations.kids
    c.in_ok-left.ensures c.in_ok-operator.ensures c.in_ok-first.ensures c.in_ok-second.ensures
    (c.in_ok-form.ensures ∙ ap (λ k. base_form c.in_ok-operator.operator.0 k (option_map (λ n. n.0) c.in_ok-first.first) (option_map (λ n. n.0) c.in_ok-second.second)) c.kids_of-takes.ensures)

-- where every part is found and the kids fit, the rule is left to check
passes : {C : Type 0} (m : Model C) (G : Lists C) (left op : Text) (first second : Option Text) (l o : ℕ) (a b : Option ℕ) (f : FormOf) (cost : C) (mnemonic : Text) → Ok l ≡ find_nonterminal G Left left → Ok o ≡ find_operator G op → Ok a ≡ find_kid G FirstKid first → Ok b ≡ find_kid G SecondKid second → Ok f ≡ base_form o (kids_of G o) a b → add_rule m G (record { left = l; form = f; cost = cost; mnemonic = mnemonic }) ≡ add_base m G left op first second cost mnemonic
passes m G left op first second l o a b f cost mnemonic hl ho ha hb hf = rw (← hl, ← ho, ← ha, ← hb, ← hf)

pub returns : goal.returns
returns g c =
    let e = passes g.C.Cost.model (draft_lists c.args.self.now) (text c.args.left) (text c.args.operator) (kid_text c.args.kids.first) (kid_text c.args.kids.second) c.in_ok-left.left.0 c.in_ok-operator.operator.0 (option_map (λ n. n.0) c.in_ok-first.first) (option_map (λ n. n.0) c.in_ok-second.second) (form_of c.in_ok-form.form) c.args.cost (text c.args.mnemonic) c.in_ok-left.ensures c.in_ok-operator.ensures c.in_ok-first.ensures c.in_ok-second.ensures (c.in_ok-form.ensures ∙ ap (λ k. base_form c.in_ok-operator.operator.0 k (option_map (λ n. n.0) c.in_ok-first.first) (option_map (λ n. n.0) c.in_ok-second.second)) c.kids_of-takes.ensures) in
    record { answer = c.add_rule.ensures.answer ∙ ap (map_ok (λ _. length (draft_lists c.args.self.now).rules + 1)) e; after = c.add_rule.ensures.after ∙ ap (lists_after (draft_lists c.args.self.now)) e }
