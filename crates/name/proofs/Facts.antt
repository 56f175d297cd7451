-- What holds of every name.
use Rattle.std.proofs.Common.{◌≡◌, ℕ, ◌<◌, ◌≤◌, ◌&&◌, Bool, true, eqb, List, length, refl, sym, ap, ◌∙◌, arith}
use Rattle.std.specs.Bool.{Decides}
use Rattle.std.specs.Str.{bytes_eq}
use Rattle.std.proofs.lemmas.Bool.Decides.{nat_tests, same_from_decides}
use Rattle.std.proofs.lemmas.List.{take-append-drop, length-take-le}
use Rattle.std.proofs.lemmas.Slice.Eq.{bytes_eq-Decides}
use Rattle.name.specs.declared.Name.{Name}
use Rattle.name.specs.Names.{text}
use Rattle.name.specs.Texts.{is_name}

-- the text of a name is one
pub text_named : (n : Name) → is_name (text n) ≡ true
text_named n = n.named

-- a name has 1 to 16 bytes
pub name_sized : (xs : List ℕ) → is_name xs ≡ true → (0 < length xs) × (length xs ≤ 16)
unfolding is_name
name_sized xs h = (grind (arith, nat_tests), grind (arith, nat_tests))

-- a name's length is that of its text
length_text : (a : Name) → length a.bytes ≡ 16 → length (text a) ≡ a.len
length_text a h = let short : a.len ≤ length a.bytes = omega (arith, a.short) in length-take-le a.len a.bytes short

-- names of one text have one length and the same bytes
one_text : (a b : Name) → length a.bytes ≡ 16 → length b.bytes ≡ 16 → text a ≡ text b → (a.bytes ≡ b.bytes) × (a.len ≡ b.len)
one_text a b h k e =
    let len : a.len ≡ b.len = sym (length_text a h) ∙ ap length e ∙ length_text b k in
    let p = a.padded in
    let q = b.padded in
    let s = take-append-drop a.len a.bytes in
    let t = take-append-drop b.len b.bytes in
    (cc, len)

-- bytes and lengths of two names are equal exactly where their texts are
pub same_names : (a b : Name) (r : Bool) → length a.bytes ≡ 16 → length b.bytes ≡ 16 → r ≡ (bytes_eq a.bytes b.bytes && eqb a.len b.len) → r ≡ bytes_eq (text a) (text b)
same_names a b r h k e =
    let bytes = bytes_eq-Decides a.bytes b.bytes in
    let texts : text a ≡ text b → (a.bytes ≡ b.bytes) × (a.len ≡ b.len) = one_text a b h k in
    let decides : Decides r (text a ≡ text b) = (λ t. grind (arith, nat_tests, bytes), λ t. grind (arith, nat_tests, bytes, texts t)) in
    same_from_decides r _ decides (bytes_eq-Decides (text a) (text b))

-- so comparing the texts answers what comparing bytes and lengths does
pub equal_names : (a b : Name) (r : Bool) → length a.bytes ≡ 16 → length b.bytes ≡ 16 → r ≡ bytes_eq (text a) (text b) → r ≡ (bytes_eq a.bytes b.bytes && eqb a.len b.len)
equal_names a b r h k e = e ∙ sym (same_names a b (bytes_eq a.bytes b.bytes && eqb a.len b.len) h k refl)
