-- A make of cost whose values wrap those of another make: the laws carry over.
use Rattle.std.specs.Prelude.{◌≡◌}
use Rattle.std.proofs.Common.{sym, ap, ◌∙◌}
use Rattle.cost.specs.Model.{Model, Laws}

module _ {C W : Type 0} (wrap : C → W) (inner : W → C) (there : (c : C) → inner (wrap c) ≡ c) (back : (w : W) → wrap (inner w) ≡ w) where
  -- the wrapped values add, subtract, compare and weigh as what they wrap does
  abbrev pub carried_model : Model C → Model W
  carried_model m = record {
    zero = wrap m.zero;
    sum = λ a b. wrap (m.sum (inner a) (inner b));
    diff = λ a b. wrap (m.diff (inner a) (inner b));
    cmp = λ a b. m.cmp (inner a) (inner b);
    weight = λ a. m.weight (inner a);
  }

  pub carried_laws : {m : Model C} → Laws m → Laws (carried_model m)
  carried_laws {m} k = record {
    cmp_flip = λ a b. k.cmp_flip (inner a) (inner b);
    cmp_chain = λ a b c. k.cmp_chain (inner a) (inner b) (inner c);
    cmp_same = λ a b e. sym (back a) ∙ ap wrap (k.cmp_same (inner a) (inner b) e) ∙ back b;
    sum_swap = λ a b h. ap wrap (k.sum_swap (inner a) (inner b) h);
    sum_group = λ a b c h. simp there (ap wrap (k.sum_group (inner a) (inner b) (inner c) h));
    sum_zero = λ a h. simp there (ap wrap (k.sum_zero (inner a) h) ∙ back a);
    diff_sum = λ a b h. simp there (ap wrap (k.diff_sum (inner a) (inner b) h) ∙ back a);
    sum_keeps = λ a b c h e. simp there (k.sum_keeps (inner a) (inner b) (inner c) h e);
    zero_weight = simp there k.zero_weight;
    sum_weight = λ a b h. simp there (k.sum_weight (inner a) (inner b) h);
    diff_weight = λ a b h. simp there (k.diff_weight (inner a) (inner b) h);
  }
