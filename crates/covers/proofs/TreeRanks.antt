-- The computed row of a tree is right.
use Rattle.std.proofs.Common.{◌≡◌, ◌≤◌, Some, None, Option, sym, refl, ap, ◌∙◌, subst, arith}
use Rattle.cost.specs.Model.{Model, Laws}
use Rattle.grammar.specs.Lists.{Lists, Sealed}
use Rattle.covers.specs.Trees.{Tree, node0, node1, node2, size}
use Rattle.covers.specs.Ranks.{Rank, by_rank, at, ranked, ranks_of, kid_ranks}
use Rattle.covers.specs.Rounds.{over, Light}
use Rattle.covers.proofs.Order.{Le}
use Rattle.covers.proofs.Relaxing.{Under, under_trans}
use Rattle.covers.proofs.BaseParts.{parts, whole, base_cover_light, over_le}
use Rattle.covers.proofs.Bases.{RightRanks, KidsRight, base_ranks, base_covers, base_covers_least}
use Rattle.covers.proofs.Closure.{closed_held, closed_ahead}

pub under_some : {C : Type 0} (m : Model C) (o : Option (Rank C)) (q : Rank C) → Under m o q → (p : Rank C) × (o ≡ Some p) × Le (by_rank m) p q
under_some m None q u = absurd u
under_some m (Some p) q u = (p, refl, u)

module _ {C : Type 0} {m : Model C} (l : Laws m) {G : Lists C} (sealed : Sealed m G) where
  pub base_ranks_light : (t : Tree) (kids : KidsRight m G t) → size t ≤ 2048 → Light m (base_ranks l sealed t kids)
  base_ranks_light t kids s n p e = base_cover_light l sealed t n p.0 s ((base_covers l sealed t kids).held n p e).1

  pub right_at_kids : (t : Tree) (kids : KidsRight m G t) → size t ≤ 2048 → RightRanks m G t (ranked m G (kid_ranks m G t))
  right_at_kids t kids s =
      let b = base_ranks l sealed t kids in
      let small = base_ranks_light t kids s in
      let st = base_covers l sealed t kids in
      record {
        held = λ n q o.
            (let w = (closed_held l sealed b small st.long).held n q o in
            let x = st.held w.e w.p w.ends in
            let k = whole m G t w.rs n w.e w.p.0 w.run x.1 in
            (k.0, k.1, k.2 ∙ ap (λ z. over m G w.rs (w.p.0, z)) (sym x.0) ∙ w.is));
        least = λ k n h.
            (let p = parts m G t k n h in
            let u = under_some m (at b p.e) (p.c, 0) (base_covers_least l sealed t kids s p.e p.c p.base_cover) in
            subst (Under m (at (ranked m G (kid_ranks m G t)) n)) p.is (under_trans l (at (ranked m G (kid_ranks m G t)) n) (over m G p.rs u.0) (over m G p.rs (p.c, 0)) (closed_ahead l sealed b small st.long p.rs n p.e u.0 p.run u.1) (over_le l sealed p.rs n p.e u.0 (p.c, 0) p.run (small p.e u.0 u.1) (base_cover_light l sealed t p.e p.c s p.base_cover) u.2)));
      }

  pub right_ranks : (t : Tree) → size t ≤ 2048 → RightRanks m G t (ranks_of m G t)
  right_ranks (node0 op p) s = right_at_kids (node0 op p) tt s
  right_ranks (node1 op p t) s = right_at_kids (node1 op p t) (right_ranks t (omega arith)) s
  right_ranks (node2 op p t u) s = right_at_kids (node2 op p t u) (right_ranks t (omega arith), right_ranks u (omega arith)) s
