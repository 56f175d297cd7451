use Rattle.std.proofs.Common.{refl}
use Rattle.name.specs.Texts.{is_name}
use Rattle.form.specs.Numbers.{digits_from, digits_of}
use Rattle.field.specs.Bytes.{place_of, split_at}
use Rattle.field.specs.Lines.{first_of, take_by}
use Rattle.field.specs.Readers.{rest}
use Rattle.grammar.specs.Drafting.{place_from}
use Rattle.machine.specs.Files.{numbered, all_taken}
use Rattle.cases.proofs.eight_cases.Goals as goal

pub returns : goal.returns
unfolding is_name digits_from digits_of place_of split_at first_of take_by rest place_from numbered all_taken
returns c = record { read_in_bytes = refl; read_in_cycles = refl; cases = c.example_machine.ensures; below_half = refl; half = refl; room_for_first = refl; first_label = refl; no_room_for_second_row = refl; room_for_first_again = refl; first_label_again = refl }
