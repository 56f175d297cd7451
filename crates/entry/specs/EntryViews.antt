-- What the entries of the code say.
use Rattle.std.specs.Option.{option_map}
use Rattle.name.specs.Names.{text}
use Rattle.entry.specs.Entries.{EntryOf, operator, nonterminal, base, chain}
use Rattle.entry.specs.declared.lines.Entry.{Entry}
use Rattle.entry.specs.declared.lines.Entry.TheVariants.{Operator, Nonterminal, Base, Chain}
use Rattle.entry.specs.declared.header.Header.{Header}
use Rattle.entry.specs.declared.header.Make.{Make}
use Rattle.entry.specs.declared.header.Labelling.{Labelling}

abbrev pub entry_view : Entry → EntryOf
entry_view (Operator name kids) = operator (text name) kids
entry_view (Nonterminal name) = nonterminal (text name)
entry_view (Base left op kids cycles bytes mnemonic) = base (text left) (text op) (option_map text kids.first) (option_map text kids.second) cycles bytes (text mnemonic)
entry_view (Chain left source cycles bytes mnemonic) = chain (text left) (text source) cycles bytes (text mnemonic)

abbrev pub header_view : Header → Make × Labelling
header_view h = (h.make, h.labelling)
