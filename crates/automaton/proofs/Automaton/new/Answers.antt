use Rattle.std.proofs.Common.{◌≡◌, ◌≤◌, true, false, length, sym, refl, ap, ◌∙◌, arith}
use native.Mathlib.Nat.{min-eq_left}
use Rattle.covers.specs.Trees.{count}
use Rattle.covers.proofs.Relaxing.{none_some}
use Rattle.grammar.specs.Lists.{Lists}
use Rattle.grammar.specs.Meaning.{grammar_lists}
use Rattle.grammar.specs.Views.{nonterminal_of}
use Rattle.table.specs.Chains.{room_for}
use Rattle.automaton.specs.Birth.{lengths, enough}
use Rattle.automaton.proofs.Births.{long_as, ranges, fits, birth_range, birth_by, rows_fit}
use Rattle.automaton.proofs.Automaton.new.Goals as goal

pub returns-then-not-are_ranged : goal.returns-then-not-are_ranged
returns-then-not-are_ranged g c = birth_range c.args.capacities (count (grammar_lists c.args.grammar.now)) (lengths c.args.memory) c.if-not-are_ranged.ensures

pub is_enough-requires : goal.is_enough-requires
is_enough-requires g c =
    let wide = long_as nonterminal_of c.nonterminals-nonterminals.result.now _ (c.nonterminals-nonterminals.ensures ∙ ap (λ (z : Lists g.row.C.Denot). z.nonterminals) c.declarations.ensures.lists) in
    let few = c.declarations.ensures.sealed.declared.few_nonterminals in
    ((ranges c.args.capacities (sym c.if-not-are_ranged.ensures)).rows, omega arith)

pub returns-then-not-is_enough : goal.returns-then-not-is_enough
returns-then-not-is_enough g c =
    let wide = long_as nonterminal_of c.nonterminals-nonterminals.result.now _ (c.nonterminals-nonterminals.ensures ∙ ap (λ (z : Lists g.row.C.Denot). z.nonterminals) c.declarations.ensures.lists) in
    birth_by c.args.capacities (count (grammar_lists c.args.grammar.now)) (lengths c.args.memory) false c.if-not-are_ranged.ensures
    (ap (λ n. enough c.args.capacities n (lengths c.args.memory)) (sym wide) ∙ sym c.if-not-is_enough.ensures)

pub returns : goal.returns
returns g c =
    let G = grammar_lists c.args.grammar.now in
    let caps = c.args.capacities in
    let n = length c.nonterminals-nonterminals.result.now in
    let wide : n ≡ count G = long_as nonterminal_of c.nonterminals-nonterminals.result.now _ (c.nonterminals-nonterminals.ensures ∙ ap (λ (z : Lists g.row.C.Denot). z.nonterminals) c.declarations.ensures.lists) in
    let few = c.declarations.ensures.sealed.declared.few_nonterminals in
    let r = ranges caps (sym c.if-not-are_ranged.ensures) in
    let f = fits caps n (lengths c.args.memory) (sym c.if-not-is_enough.ensures) in
    let most = c.new.ensures.most ∙ min-eq_left f.nodes in
    let narrow : n ≤ 32 = omega arith in
    let keys : caps.keys ≤ room_for (length c.args.memory.keys.now) = (let a = f.keys in let b = r.keys in omega arith) in (
      birth_by caps (count G) (lengths c.args.memory) true c.if-not-are_ranged.ensures (ap (λ z. enough caps z (lengths c.args.memory)) (sym wide) ∙ sym c.if-not-is_enough.ensures),
      refl,
      most,
      c.new-2.ensures.keys,
      c.new-2.ensures.rows,
      record {
        few = (let a = r.nodes in omega arith);
        nodes = c.new.ensures.nodes;
        labels = c.new.ensures.labels;
        listed = record { fits = λ i x e. absurd (none_some x e); below = λ i x e. absurd (none_some x e); once = tt };
        opens = λ i t e. absurd (none_some t e);
        knows = c.new-2.ensures.knows G c.declarations.ensures.sealed (sym wide) f.work keys (rows_fit (length c.args.memory.labels.now) (length c.args.memory.rows.now) caps.rows n f.labels f.rows r.rows narrow);
      },
    )
