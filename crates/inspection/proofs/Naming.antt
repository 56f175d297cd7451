-- Names of operators, as the lists of a grammar have them.
use Rattle.std.proofs.Common.{◌≡◌, List, [], ◌∷◌, map, refl, ap, ◌∙◌}
use Rattle.name.specs.Names.{text}
use Rattle.grammar.specs.Lists.{OperatorOf}
use Rattle.grammar.specs.Views.{operator_of}
use Rattle.grammar.specs.declared.parts.Operator.{Operator}

pub names_are : (os : List Operator) (ops : List OperatorOf) → map operator_of os ≡ ops → map (λ (x : Operator). text x.name) os ≡ map (λ (x : OperatorOf). x.name) ops
names_are os ops h = by_list os ∙ ap (map (λ (x : OperatorOf). x.name)) h where
  by_list : (xs : List Operator) → map (λ (x : Operator). text x.name) xs ≡ map (λ (x : OperatorOf). x.name) (map operator_of xs)
  by_list [] = refl
  by_list (x ∷ xs) = ap (λ ys. text x.name ∷ ys) (by_list xs)
