use Rattle.covers.proofs.NodeTrees.{subtree_each, subtree_is, is_subtree, subtree_fits, subtree_small, subtree_stays}
use Rattle.covers.proofs.subtrees_are_right.Goals as goal

pub returns : goal.returns
returns c ops ns l = record {
  each = subtree_each ops ns l;
  is = λ i t. (subtree_is ns i t, is_subtree ops ns l i t);
  fits = λ i t e. subtree_fits ops ns l t i (subtree_is ns i t e);
  small = subtree_small ops ns l;
  stays = subtree_stays ns;
}
