-- What a header asks for.
use Rattle.entry.specs.declared.header.Make.{Make}
use Rattle.entry.specs.declared.header.Make.TheVariants as make
use Rattle.entry.specs.declared.header.Labelling.{Labelling}
use Rattle.machine.specs.declared.asked.AskedDraft.{AskedDraft}
use Rattle.machine.specs.declared.asked.AskedDraft.TheVariants.{Bytes, Cycles}

-- the make of cost of a draft, and the labeller that it is for
abbrev pub asked : AskedDraft → Make × Labelling
asked (Bytes labelling draft) = (make.Bytes, labelling)
asked (Cycles labelling draft) = (make.Cycles, labelling)
