-- A node passes the checks exactly where the list has room and stays right with it.
use Rattle.std.proofs.Common.{◌≡◌, ℕ, ◌<◌, Bool, true, false, cond, eqb, ltb, List, [], ◌∷◌, ◌++◌, length, Some, None, Ok, Err, Option, sym, refl, ap, subst, inl, inr, arith}
use Rattle.std.proofs.lemmas.Bool.{eqb-true, eq-eqb, ltb-true, lt-ltb}
use Rattle.std.specs.List.{slice_get}
use Rattle.std.specs.Option.{option_map}
use Rattle.grammar.specs.Lists.{OperatorOf, Takes}
use Rattle.covers.specs.Covers.{Distinct}
use Rattle.covers.specs.Nodes.{Node, operator, kids, all_kids, Below, Listed}
use Rattle.covers.proofs.Nths.{nth_more, nth_back}
use Rattle.covers.proofs.Relaxing.{some_is, none_some}
use Rattle.nodes.specs.declared.NodeRefusal.{NodeRefusal}
use Rattle.nodes.specs.declared.NodeRefusal.TheVariants.{Operator, Kids, Kid, Full}
use Rattle.nodes.specs.Checks.{all_free, check_declared, check_node, check_answer}
use Rattle.nodes.specs.Theorems.{ChecksAreRight}
use Rattle.nodes.proofs.Among.{Free, all_free_is, free_all, all_kids_more, distinct_join, distinct_parts}

-- what a node that is not refused has
record Passed (o : Option OperatorOf) (most : ℕ) (ns : List Node) (ks : List ℕ) : Type 0 where
  pub takes : option_map (λ (x : OperatorOf). x.kids) o ≡ Some (length ks)
  pub free : all_free ns ks ≡ true
  pub room : length ns < most

some_none : {A B : Type 0} (x : A) → ◌≡◌ {A = Option A} (Some x) None → B
some_none x e = absurd (none_some x (sym e))

conds_none : (a b c : Bool) → cond a (cond b (cond c None (Some Full)) (Some Kid)) (Some Kids) ≡ None → (a ≡ true) × (b ≡ true) × (c ≡ true)
conds_none true true true e = (refl, refl, refl)
conds_none true true false e = some_none Full e
conds_none true false c e = some_none Kid e
conds_none false b c e = some_none Kids e

check_passed : (o : Option OperatorOf) (most : ℕ) (ns : List Node) (ks : List ℕ) → check_declared o most ns ks ≡ None → Passed o most ns ks
check_passed None most ns ks e = some_none Operator e
check_passed (Some o) most ns ks e =
    let p = conds_none (eqb o.kids (length ks)) (all_free ns ks) (ltb (length ns) most) e in
    record {
      takes = ap {B = Option ℕ} Some (eqb-true o.kids (length ks) p.0);
      free = p.1;
      room = ltb-true (length ns) most p.2;
    }

passed_check : (o : Option OperatorOf) (most : ℕ) (ns : List Node) (ks : List ℕ) → Passed o most ns ks → check_declared o most ns ks ≡ None
passed_check None most ns ks p = absurd (none_some (length ks) p.takes)
passed_check (Some o) most ns ks p =
    let e = eq-eqb o.kids (length ks) (some_is o.kids (length ks) p.takes) in
    let f = p.free in
    let t = lt-ltb (length ns) most p.room in
    rw (e, f, t) refl

-- what an answer of a check says
pub check_ok : (o : Option NodeRefusal) → check_answer o ≡ Ok tt → o ≡ None
check_ok None e = refl
check_ok (Some f) e = (let z : ◌≡◌ {A = ℕ} 0 1 = cc in absurd (omega arith))

pub check_refused : (o : Option NodeRefusal) (f : NodeRefusal) → check_answer o ≡ Err f → o ≡ Some f
check_refused None f e = (let z : ◌≡◌ {A = ℕ} 0 1 = cc in absurd (omega arith))
check_refused (Some g) f e = (let q : g ≡ f = cc in ap {B = Option NodeRefusal} Some q)

nth_last : (ns : List Node) (x : Node) → slice_get (ns ++ x ∷ []) (length ns) ≡ Some x
nth_last ns x = nth_back ns (x ∷ []) 0 (length ns) (omega arith)

module _ (ops : List OperatorOf) (most : ℕ) (ns : List Node) (x : Node) where
  pub checked_room : check_node ops most ns x ≡ None → length ns < most
  checked_room e = (check_passed (slice_get ops (operator x.top)) most ns (kids x.top) e).room

  pub checked_takes : check_node ops most ns x ≡ None → Takes ops (operator x.top) (length (kids x.top))
  checked_takes e = (check_passed (slice_get ops (operator x.top)) most ns (kids x.top) e).takes

  checked_free : check_node ops most ns x ≡ None → Free ns (kids x.top)
  checked_free e = all_free_is ns (kids x.top) (check_passed (slice_get ops (operator x.top)) most ns (kids x.top) e).free

  pub checked_below : check_node ops most ns x ≡ None → Below (length ns) (kids x.top)
  checked_below e = (checked_free e).below

  pub checked_listed : Listed ops ns → check_node ops most ns x ≡ None → Listed ops (ns ++ x ∷ [])
  checked_listed l e =
      let f = checked_free e in
      record {
        fits = λ i y h. elim (nth_more ns x i y h) [
          | inl k ↦ l.fits i y k
          | inr k ↦ subst (λ z. Takes ops (operator z.top) (length (kids z.top))) k.1 (checked_takes e)
        ];
        below = λ i y h. elim (nth_more ns x i y h) [
          | inl k ↦ l.below i y k
          | inr k ↦ subst (λ z. Below i (kids z.top)) k.1 (subst (λ n. Below n (kids x.top)) (sym k.0) f.below)
        ];
        once = subst Distinct (sym (all_kids_more ns x)) (distinct_join (all_kids ns) (kids x.top) l.once f.distinct f.outside);
      }

  -- and back: a node with which the list stays right is not refused while there is room
  pub listed_checked : Listed ops (ns ++ x ∷ []) → length ns < most → check_node ops most ns x ≡ None
  listed_checked l r =
      let last = nth_last ns x in
      let d = distinct_parts (all_kids ns) (kids x.top) (subst Distinct (all_kids_more ns x) l.once) in
      passed_check (slice_get ops (operator x.top)) most ns (kids x.top)
      record {
        takes = l.fits (length ns) x last;
        free = free_all ns (kids x.top) (l.below (length ns) x last) d.0 d.1;
        room = r;
      }

pub checks_are_right : ChecksAreRight
checks_are_right ops most ns x l = ((λ e. (checked_listed ops most ns x l e, checked_room ops most ns x e)), (λ p. listed_checked ops most ns x p.0 p.1))
