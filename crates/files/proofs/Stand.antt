-- Words that stand in the text one after another.
use Rattle.std.proofs.Common.{◌≡◌, ℕ, ◌+◌, ◌-◌, ◌^◌, ◌<◌, ◌≤◌, Bool, false, List, [], ◌∷◌, ◌++◌, length, take, drop, ℤ, pos, nat_abs, decimal, sym, refl, ap, ◌∙◌, subst, append_assoc, arith}
use Rattle.std.proofs.lemmas.List.{drop_more, length-append, length-drop}
use Rattle.std.specs.Fmt.{signed_decimal}
use Rattle.files.specs.declared.reader.Reader.{Reader}
use Rattle.files.specs.declared.row.Row.{Row}
use Rattle.files.specs.declared.token.Token.{Token}
use Rattle.files.specs.declared.token.Token.TheVariants as T
use Rattle.files.specs.Form.{line}
use Rattle.files.specs.Lines.{Stands}
use Rattle.files.specs.Names.{Names}
use Rattle.files.specs.Steps.{ReadsOn}
use Rattle.files.specs.Tokens.{value_of, size_of, Took}
use Rattle.files.specs.Words.{IsNatural}
use Rattle.files.proofs.Tools.{cut}

stands : (text : List ℕ) (at : ℕ) (bs : List ℕ) (to : ℕ) → at ≤ to → to ≤ length text → drop at text ≡ bs ++ drop to text → Stands text at bs to
stands text at bs to f w r =
    let a = length-append bs (drop to text) in
    let d = length-drop at text in
    let e = length-drop to text in
    record { place = omega (arith, ap length r); within = w; rest = r }

stands_then : (text : List ℕ) (at : ℕ) (bs : List ℕ) (to : ℕ) (cs : List ℕ) (u : ℕ) → Stands text at bs to → Stands text to cs u → Stands text at (bs ++ cs) u
stands_then text at bs to cs u s t =
    let l = length-append bs cs in
    record { place = omega (arith, s.place, t.place); within = t.within; rest = s.rest ∙ (ap (λ (x : List ℕ). bs ++ x) t.rest ∙ sym (append_assoc bs cs (drop u text))) }

-- the word of a number and the byte that ends it
stands_word : (text : List ℕ) (at : ℕ) (sign : Bool) (end to : ℕ) (tok : Token) → Took text at sign end to tok → Stands text at (signed_decimal (value_of tok) ++ (end ∷ [])) to
stands_word text at sign end to tok t =
    let w = signed_decimal (value_of tok) in
    let k : to - 1 + 1 ≡ to = omega (arith, t.forward) in
    let r : take (to - 1 - at) (drop at text) ≡ w = sym t.part ∙ t.reads in
    let e : drop (to - 1) text ≡ end ∷ drop to text =
    drop_more text (to - 1) 0 (omega (arith, t.forward, t.within)) ∙ (ap (λ (x : ℕ). x ∷ drop (to - 1 + 1) text) t.ends ∙ ap (λ (x : ℕ). end ∷ drop x text) k) in
    stands text at (w ++ (end ∷ [])) to (omega (arith, t.forward)) t.within
    (cut text at (to - 1) (omega (arith, t.forward)) ∙ (ap (λ (x : List ℕ). x ++ drop (to - 1) text) r ∙ (ap (λ (x : List ℕ). w ++ x) e ∙ sym (append_assoc w (end ∷ []) (drop to text)))))

size_abs : (tok : Token) → size_of tok ≡ nat_abs (value_of tok)
size_abs (T.Name w) = refl
size_abs (T.Number w z) = refl

module _ {text : List ℕ} {at : ℕ} {sign : Bool} {end to : ℕ} {tok : Token} where
  pub stands_value : (z : ℤ) → z ≡ value_of tok → Took text at sign end to tok → Stands text at (signed_decimal z ++ (end ∷ [])) to
  stands_value z e t = subst (λ (x : ℤ). Stands text at (signed_decimal x ++ (end ∷ [])) to) (sym e) (stands_word text at sign end to tok t)

module _ {text : List ℕ} {at end to : ℕ} {tok : Token} where
  pub stands_size : (n : ℕ) → n ≡ size_of tok → Took text at false end to tok → Stands text at (decimal n ++ (end ∷ [])) to
  stands_size n e t = stands_value (pos n) (ap pos (e ∙ size_abs tok) ∙ sym (t.natural refl).0) t

  pub size_fits : (n : ℕ) → n ≡ size_of tok → Took text at false end to tok → n < 2 ^ 63
  size_fits n e t = let s = size_abs tok in let f = (t.natural refl).1 in omega arith

  pub value_fits : (z : ℤ) → z ≡ value_of tok → Took text at false end to tok → IsNatural z
  value_fits z e t = subst IsNatural (sym e) (t.natural refl)

pub stands_name : {text : List ℕ} {at : ℕ} {want : List ℕ} {end to : ℕ} {tok : Token} → Names text at want end to tok → Stands text at (want ++ (end ∷ [])) to
stands_name {text} {at} {want} {end} {to} n =
    stands text at (want ++ (end ∷ [])) to (omega (arith, n.place)) n.within (n.rest ∙ sym (append_assoc want (end ∷ []) (drop to text)))

-- the reader goes on by the bytes bs
abbrev pub Passes : Reader → List ℕ → Reader → Type 0
Passes r bs s = ReadsOn r s (λ text from to. Stands text from bs to)

module _ {r s : Reader} {P : List ℕ → ℕ → ℕ → Type 0} {bs : List ℕ} where
  pub passes : ReadsOn r s P → Stands r.text.now r.at bs s.at → Passes r bs s
  passes k p = record { kept = k.kept; read = p }

module _ {r s t : Reader} {P : List ℕ → ℕ → ℕ → Type 0} {bs cs : List ℕ} where
  pub passes_then : Passes r bs s → ReadsOn s t P → Stands s.text.now s.at cs t.at → Passes r (bs ++ cs) t
  passes_then p k q =
      record {
        kept = k.kept ∙ p.kept;
        read = stands_then r.text.now r.at bs s.at cs t.at p.read (subst (λ (x : List ℕ). Stands x s.at cs t.at) p.kept q);
      }

-- the rest of a row's line from one of its words on
abbrev pub from_den : Row → List ℕ
from_den r = signed_decimal r.den ++ (10 ∷ [])

abbrev pub from_num : Row → List ℕ
from_num r = signed_decimal r.num ++ (32 ∷ from_den r)

abbrev pub from_c : Row → List ℕ
from_c r = decimal r.c ++ (32 ∷ from_num r)

abbrev pub from_b : Row → List ℕ
from_b r = decimal r.b ++ (32 ∷ from_c r)

-- the words of a whole line
module _ {t₀ : List ℕ} {a₀ to : ℕ} where
  pub row_stands : (r : Row) →
      Stands t₀ a₀ (((((decimal r.a ++ (32 ∷ [])) ++ (decimal r.b ++ (32 ∷ []))) ++ (decimal r.c ++ (32 ∷ []))) ++ (signed_decimal r.num ++ (32 ∷ []))) ++ (signed_decimal r.den ++ (10 ∷ []))) to → Stands t₀ a₀ (line r) to
  row_stands r s = subst (λ (bs : List ℕ). Stands t₀ a₀ bs to) (simp append_assoc) s

  pub cell_stands : (d : ℕ) (knum kden : ℤ) → Stands t₀ a₀ (((decimal d ++ (32 ∷ [])) ++ (signed_decimal knum ++ (32 ∷ []))) ++ (signed_decimal kden ++ (10 ∷ []))) to →
      Stands t₀ a₀ (decimal d ++ (32 ∷ (signed_decimal knum ++ (32 ∷ (signed_decimal kden ++ (10 ∷ [])))))) to
  cell_stands d knum kden s = subst (λ (bs : List ℕ). Stands t₀ a₀ bs to) (simp append_assoc) s
