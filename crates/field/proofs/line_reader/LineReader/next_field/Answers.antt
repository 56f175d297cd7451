use Rattle.std.proofs.Common.{arith}
use Rattle.std.proofs.lemmas.List.{take_rest}
use Rattle.field.specs.Readers.{to_come}
use Rattle.field.proofs.Splits.{step}
use Rattle.field.proofs.line_reader.LineReader.next_field.Goals as goal

pub returns : goal.returns
unfolding to_come
returns c =
    let all = take_rest c.args.self.now.line.now c.args.self.now.cursor in
    let s = step c.args.self.now.mark c.args.self.now.line.now c.args.self.now.cursor c.place_of-n.result in
    record { text = grind arith; place = grind arith; count = grind arith }
