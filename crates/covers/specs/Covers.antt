-- What a cover of a tree is, what it costs, and which of the covers is chosen.
use Rattle.std.specs.Prelude.{◌≡◌, ℕ, zero, suc, ◌<◌, ◌≤◌, ◌≢◌, List, [], ◌∷◌, length, Some, None, Option}
use Rattle.std.specs.declared.cmp.Ordering.TheVariants.{Less}
use Rattle.cost.specs.Model.{Model}
use Rattle.grammar.specs.Lists.{FormOf, chain, base0, base1, base2, RuleOf, Lists, rule}
use Rattle.covers.specs.Trees.{Tree, node0, node1, node2}

-- the source of a chain rule, and 0 for any other
abbrev pub form_source : FormOf → ℕ
form_source (chain s) = s
form_source (base0 op) = 0
form_source (base1 op a) = 0
form_source (base2 op a b) = 0

abbrev pub rule_source : {C : Type 0} → Option (RuleOf C) → ℕ
rule_source None = 0
rule_source (Some ρ) = form_source ρ.form

-- the source of the chain rule of number r
abbrev pub source : {C : Type 0} → Lists C → ℕ → ℕ
source G r = rule_source (rule G r)

abbrev pub cost_or_zero : {C : Type 0} → Model C → Option (RuleOf C) → C
cost_or_zero m None = m.zero
cost_or_zero m (Some ρ) = ρ.cost

-- the cost of the rule of number r, and zero where there is no such rule
abbrev pub rule_cost : {C : Type 0} → Model C → Lists C → ℕ → C
rule_cost m G r = cost_or_zero m (rule G r)

-- there is a rule of number r, with the left side n and the form s
pub record RuleIs {C : Type 0} (G : Lists C) (r n : ℕ) (s : FormOf) : Type 0 where
  pub ρ : RuleOf C
  pub stands : rule G r ≡ Some ρ
  pub from : ρ.left ≡ n
  pub formed : ρ.form ≡ s

-- n is none of the numbers
abbrev pub Apart : ℕ → List ℕ → Type 0
Apart n [] = Unit {0}
Apart n (x ∷ xs) = (n ≢ x) × Apart n xs

-- no number stands twice
abbrev pub Distinct : List ℕ → Type 0
Distinct [] = Unit {0}
Distinct (x ∷ xs) = Apart x xs × Distinct xs

-- the chain rules of the numbers rs lead from n to e: the first has the left side n, each one's source is the next one's left
-- side, and the last one's source is e
abbrev pub Linked : {C : Type 0} → Lists C → List ℕ → ℕ → ℕ → Type 0
Linked G [] n e = n ≡ e
Linked G (r ∷ rs) n e = RuleIs G r n (chain (source G r)) × Linked G rs (source G r) e

-- the nonterminals that stand in such a run: n, and each rule's source
abbrev pub on_run : {C : Type 0} → Lists C → List ℕ → ℕ → List ℕ
on_run G [] n = n ∷ []
on_run G (r ∷ rs) n = n ∷ on_run G rs (source G r)

-- a run of chain rules from n to e, in which no nonterminal stands twice
pub record Run {C : Type 0} (G : Lists C) (rs : List ℕ) (n e : ℕ) : Type 0 where
  pub linked : Linked G rs n e
  pub simple : Distinct (on_run G rs n)

-- a cover: a run of chain rules and a base rule, by their numbers, and a cover for each kid
pub data Cover : Type 0 where
  cover0 : (run : List ℕ) (r : ℕ) → Cover
  cover1 : (run : List ℕ) (r : ℕ) → Cover → Cover
  cover2 : (run : List ℕ) (r : ℕ) → Cover → Cover → Cover

-- k is a cover of the tree from n: its run starts at n, its base rule has the node's operator and, as its left side, where the
-- run ended, and each kid has its cover from the rule's nonterminal for it
abbrev pub Covers : {C : Type 0} → Lists C → Cover → Tree → ℕ → Type 0
Covers G (cover0 rs r) (node0 op p) n = (e : ℕ) × Run G rs n e × RuleIs G r e (base0 op)
Covers G (cover0 rs r) (node1 op p t) n = ⊥
Covers G (cover0 rs r) (node2 op p t u) n = ⊥
Covers G (cover1 rs r k) (node0 op p) n = ⊥
Covers G (cover1 rs r k) (node1 op p t) n = (e a : ℕ) × Run G rs n e × RuleIs G r e (base1 op a) × Covers G k t a
Covers G (cover1 rs r k) (node2 op p t u) n = ⊥
Covers G (cover2 rs r k j) (node0 op p) n = ⊥
Covers G (cover2 rs r k j) (node1 op p t) n = ⊥
Covers G (cover2 rs r k j) (node2 op p t u) n = (e a b : ℕ) × Run G rs n e × RuleIs G r e (base2 op a b) × Covers G k t a × Covers G j u b

-- c with the cost of each rule of a run added to it, from the run's end on
abbrev pub run_cost : {C : Type 0} → Model C → Lists C → List ℕ → C → C
run_cost m G [] c = c
run_cost m G (r ∷ rs) c = m.sum (run_cost m G rs c) (rule_cost m G r)

-- what a cover costs: the sum of its rules' costs
abbrev pub cover_cost : {C : Type 0} → Model C → Lists C → Cover → C
cover_cost m G (cover0 rs r) = run_cost m G rs (rule_cost m G r)
cover_cost m G (cover1 rs r k) = run_cost m G rs (m.sum (rule_cost m G r) (cover_cost m G k))
cover_cost m G (cover2 rs r k j) = run_cost m G rs (m.sum (m.sum (rule_cost m G r) (cover_cost m G k)) (cover_cost m G j))

-- how many chain rules stand at the root
abbrev pub chain_count : Cover → ℕ
chain_count (cover0 rs r) = length rs
chain_count (cover1 rs r k) = length rs
chain_count (cover2 rs r k j) = length rs

-- c is the least cost of t from n: some cover costs c, and none costs less
pub record Least {C : Type 0} (m : Model C) (G : Lists C) (t : Tree) (n : ℕ) (c : C) : Type 0 where
  pub some : (k : Cover) × Covers G k t n × (cover_cost m G k ≡ c)
  pub none_below : (k : Cover) → Covers G k t n → m.cmp (cover_cost m G k) c ≢ Less

-- d is the fewest chain rules at the root among the covers of t from n that cost the least
pub record Fewest {C : Type 0} (m : Model C) (G : Lists C) (t : Tree) (n d : ℕ) : Type 0 where
  pub some : (k : Cover) × Covers G k t n × Least m G t n (cover_cost m G k) × (chain_count k ≡ d)
  pub none_fewer : (k : Cover) → Covers G k t n → Least m G t n (cover_cost m G k) → d ≤ chain_count k

-- r is a base rule from n with the root's operator, and it costs c with the kids' least costs
abbrev pub BaseAttains : {C : Type 0} → Model C → Lists C → Tree → ℕ → C → ℕ → Type 0
BaseAttains {C} m G (node0 op p) n c r = RuleIs G r n (base0 op) × (rule_cost m G r ≡ c)
BaseAttains {C} m G (node1 op p t) n c r = (a : ℕ) × (x : C) × RuleIs G r n (base1 op a) × Least m G t a x × (m.sum (rule_cost m G r) x ≡ c)
BaseAttains {C} m G (node2 op p t u) n c r = (a b : ℕ) × (x y : C) × RuleIs G r n (base2 op a b) × Least m G t a x × Least m G u b y × (m.sum (m.sum (rule_cost m G r) x) y ≡ c)

-- r is a chain rule from n to a source whose least cost with the rule's own is c, and whose fewest chain rules are d
pub record ChainAttains {C : Type 0} (m : Model C) (G : Lists C) (t : Tree) (n : ℕ) (c : C) (d r : ℕ) : Type 0 where
  pub s : ℕ
  pub x : C
  pub is : RuleIs G r n (chain s)
  pub least : Least m G t s x
  pub fewest : Fewest m G t s d
  pub comes_to : m.sum x (rule_cost m G r) ≡ c

-- r is the lowest number that has P
pub record Lowest (P : ℕ → Type 0) (r : ℕ) : Type 0 where
  pub holds : P r
  pub first : (q : ℕ) → q < r → P q → ⊥

-- r is the rule to choose where the least cost is c and the fewest chain rules are d: with no chain rule the lowest-numbered base
-- rule that attains c, else the lowest-numbered chain rule that attains c over a source with one chain rule less
abbrev pub Choice : {C : Type 0} → Model C → Lists C → Tree → ℕ → C → ℕ → ℕ → Type 0
Choice m G t n c zero r = Lowest (BaseAttains m G t n c) r
Choice m G t n c (suc d) r = Lowest (ChainAttains m G t n c d) r

-- r is the choice for t from n
pub record Chooses {C : Type 0} (m : Model C) (G : Lists C) (t : Tree) (n r : ℕ) : Type 0 where
  pub cost : C
  pub chain_rules : ℕ
  pub least : Least m G t n cost
  pub fewest : Fewest m G t n chain_rules
  pub choice : Choice m G t n cost chain_rules r

-- f is the least of the least costs of t from all nonterminals
pub record LeastOfAll {C : Type 0} (m : Model C) (G : Lists C) (t : Tree) (f : C) : Type 0 where
  pub some : (n : ℕ) × Least m G t n f
  pub none_below : (n : ℕ) (c : C) → Least m G t n c → m.cmp c f ≢ Less
