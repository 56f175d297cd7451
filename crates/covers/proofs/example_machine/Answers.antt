use Rattle.std.proofs.Common.{refl, arith}
use Rattle.covers.proofs.ExampleSealed.{sealed_bytes, sealed_cycles}
use Rattle.covers.proofs.example_machine.Goals as goal

pub returns : goal.returns
returns c = record {
  sealed_bytes = sealed_bytes;
  sealed_cycles = sealed_cycles;
  constant = refl;
  one_round = refl;
  two_rounds = refl;
  register = refl;
  sum = refl;
  sum_not_from_imm = refl;
  constants = refl;
  constants_label = refl;
  constants_cost = refl;
  sum_cost = refl;
  load = refl;
  registers = refl;
  load_label = λ e. omega arith;
  sum_in_cycles = refl;
  difference = refl;
  after_zero = refl;
  first_label = refl;
  one_row = refl;
  one_key = refl;
  not_held = refl;
  second_label = refl;
  still_one_row = refl;
  still_one_key = refl;
  loaded_steps = refl;
  loaded_total = refl;
  loaded_rows = refl;
  loaded_keys = refl;
}
