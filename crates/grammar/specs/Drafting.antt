-- What a draft's calls do to its lists: what is appended, or why nothing is. Checks run from the top downwards.
use Rattle.std.specs.Prelude.{ℕ, Bool, false, cond, ◌||◌, List, [], ◌∷◌, ◌++◌, length, is_some, Some, None, Ok, Err, Option, Result, ◌==◌, nat_le, nat_lt}
use Rattle.std.specs.List.{slice_get, position_from}
use Rattle.std.specs.Option.{ok_or, unwrap_or, option_map}
use Rattle.std.specs.Ordering.{is_lt}
use Rattle.std.specs.Str.{bytes_eq}
use Rattle.cost.specs.Model.{Model}
use Rattle.name.specs.Outcomes.{and_then, map_ok}
use Rattle.grammar.specs.Lists.{Text, OperatorOf, FormOf, chain, base0, base1, base2, RuleOf, Lists}
use Rattle.grammar.specs.declared.refusal.Part.{Part}
use Rattle.grammar.specs.declared.refusal.Part.TheVariants.{Kids, Left, Operator, FirstKid, SecondKid, Source}
use Rattle.grammar.specs.declared.refusal.DraftRefusal.{DraftRefusal}
use Rattle.grammar.specs.declared.refusal.DraftRefusal.TheVariants.{Repeated, Undeclared, Unfit, Full, OwnSource, Unpriced}

-- e where the test holds, else what follows
abbrev pub refuse_if : {A E : Type 0} → Bool → E → Result A E → Result A E
refuse_if b e r = cond b (Err e) r

-- the place of the first that has the name, where the first of all has the place i
unfoldable pub place_from : {A : Type 0} → (A → Text) → ℕ → Text → List A → Option ℕ
place_from f i x ys = position_from (λ y. bytes_eq (f y) x) i ys

-- the number of the operator or nonterminal of a name
abbrev pub operator_place : {C : Type 0} → Lists C → Text → Option ℕ
operator_place G x = place_from (λ (o : OperatorOf). o.name) 0 x G.operators

abbrev pub nonterminal_place : {C : Type 0} → Lists C → Text → Option ℕ
nonterminal_place G x = place_from (λ (t : Text). t) 0 x G.nonterminals

-- one operator, nonterminal or rule more
abbrev pub with_operator : {C : Type 0} → Lists C → OperatorOf → Lists C
with_operator G o = record { operators = G.operators ++ o ∷ []; nonterminals = G.nonterminals; rules = G.rules }

abbrev pub with_nonterminal : {C : Type 0} → Lists C → Text → Lists C
with_nonterminal G x = record { operators = G.operators; nonterminals = G.nonterminals ++ x ∷ []; rules = G.rules }

abbrev pub with_rule : {C : Type 0} → Lists C → RuleOf C → Lists C
with_rule G ρ = record { operators = G.operators; nonterminals = G.nonterminals; rules = G.rules ++ ρ ∷ [] }

abbrev pub empty : {C : Type 0} → Lists C
empty = record { operators = []; nonterminals = []; rules = [] }

-- an operator of a name and a number of kids is declared
abbrev pub declare_operator : {C : Type 0} → Lists C → Text → ℕ → Result (Lists C) DraftRefusal
declare_operator G name kids =
    refuse_if (is_some (operator_place G name)) Repeated
    (refuse_if (nat_lt 2 kids) (Unfit Kids)
    (refuse_if (nat_le 64 (length G.operators)) Full
    (Ok (with_operator G (record { name = name; kids = kids })))))

abbrev pub declare_nonterminal : {C : Type 0} → Lists C → Text → Result (Lists C) DraftRefusal
declare_nonterminal G name =
    refuse_if (is_some (nonterminal_place G name)) Repeated
    (refuse_if (nat_le 32 (length G.nonterminals)) Full
    (Ok (with_nonterminal G name)))

-- the number of a nonterminal's name, or a refusal at the part where it stands
abbrev pub find_nonterminal : {C : Type 0} → Lists C → Part → Text → Result ℕ DraftRefusal
find_nonterminal G part x = ok_or (nonterminal_place G x) (Undeclared part)

abbrev pub find_operator : {C : Type 0} → Lists C → Text → Result ℕ DraftRefusal
find_operator G x = ok_or (operator_place G x) (Undeclared Operator)

-- a kid that a base rule gives, or none
abbrev pub find_kid : {C : Type 0} → Lists C → Part → Option Text → Result (Option ℕ) DraftRefusal
find_kid G part None = Ok None
find_kid G part (Some x) = map_ok Some (find_nonterminal G part x)

-- how many kids the operator of a number takes
abbrev pub kids_of : {C : Type 0} → Lists C → ℕ → ℕ
kids_of G o = unwrap_or (option_map (λ (x : OperatorOf). x.kids) (slice_get G.operators o)) 0

-- the form of a base rule: an operator o of k kids with the kids given; the first that does not fit is refused
abbrev pub base_form : ℕ → ℕ → Option ℕ → Option ℕ → Result FormOf DraftRefusal
base_form o k None None = refuse_if (nat_lt 0 k) (Unfit FirstKid) (Ok (base0 o))
base_form o k None (Some b) = refuse_if (nat_lt 0 k) (Unfit FirstKid) (Err (Unfit SecondKid))
base_form o k (Some a) None = refuse_if (k == 0) (Unfit FirstKid) (refuse_if (nat_lt 1 k) (Unfit SecondKid) (Ok (base1 o a)))
base_form o k (Some a) (Some b) = refuse_if (k == 0) (Unfit FirstKid) (refuse_if (k == 1) (Unfit SecondKid) (Ok (base2 o a b)))

-- a chain rule from its own left side
abbrev pub own_source : ℕ → FormOf → Bool
own_source left (chain s) = s == left
own_source left (base0 o) = false
own_source left (base1 o a) = false
own_source left (base2 o a b) = false

-- a cost before zero, or weighing over 1,000
abbrev pub unpriced : {C : Type 0} → Model C → C → Bool
unpriced m c = is_lt (m.cmp c m.zero) || nat_lt 1000 (m.weight c)

abbrev pub add_rule : {C : Type 0} → Model C → Lists C → RuleOf C → Result (Lists C) DraftRefusal
add_rule m G ρ =
    refuse_if (nat_le 256 (length G.rules)) Full
    (refuse_if (own_source ρ.left ρ.form) OwnSource
    (refuse_if (unpriced m ρ.cost) Unpriced
    (Ok (with_rule G ρ))))

abbrev pub add_chain : {C : Type 0} → Model C → Lists C → Text → Text → C → Text → Result (Lists C) DraftRefusal
add_chain m G left source cost mnemonic =
    and_then (find_nonterminal G Left left) (λ l.
    and_then (find_nonterminal G Source source) (λ s.
    add_rule m G (record { left = l; form = chain s; cost = cost; mnemonic = mnemonic })))

abbrev pub add_base : {C : Type 0} → Model C → Lists C → Text → Text → Option Text → Option Text → C → Text → Result (Lists C) DraftRefusal
add_base m G left op first second cost mnemonic =
    and_then (find_nonterminal G Left left) (λ l.
    and_then (find_operator G op) (λ o.
    and_then (find_kid G FirstKid first) (λ a.
    and_then (find_kid G SecondKid second) (λ b.
    and_then (base_form o (kids_of G o) a b) (λ f.
    add_rule m G (record { left = l; form = f; cost = cost; mnemonic = mnemonic }))))))

-- the lists after a call with this outcome: a refusal leaves them as they were
abbrev pub lists_after : {C : Type 0} → Lists C → Result (Lists C) DraftRefusal → Lists C
lists_after before (Ok G) = G
lists_after before (Err e) = before
