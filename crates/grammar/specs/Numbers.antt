-- The number of each refusal of a draft.
use Rattle.std.specs.Prelude.{ℕ}
use Rattle.grammar.specs.declared.refusal.DraftRefusal.{DraftRefusal}
use Rattle.grammar.specs.declared.refusal.DraftRefusal.TheVariants.{Repeated, Undeclared, Unfit, Full, OwnSource, Unpriced}

abbrev pub draft_number : DraftRefusal → ℕ
draft_number Repeated = 10
draft_number (Undeclared part) = 11
draft_number (Unfit part) = 12
draft_number Full = 13
draft_number OwnSource = 14
draft_number Unpriced = 15
