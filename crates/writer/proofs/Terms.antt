-- The terms of a table, one after another.
use Rattle.std.proofs.Common.{◌≡◌, ℕ, zero, suc, ◌+◌, ◌*◌, ◌<◌, ◌≤◌, Bool, true, false, cond, List, [], ◌∷◌, ◌++◌, length, ℤ, pos, negsuc, nat_abs, eqb, sym, refl, ap, ◌∙◌, subst, append_assoc, w64, SFits, to_z, of_z, arith}
use Rattle.std.proofs.lemmas.Bool.{cond-true, cond-false}
use Rattle.std.proofs.Math.Dec.{eqb-suc-zero}
use Rattle.std.proofs.lemmas.Int.{to_z-of_z}
use Rattle.std.proofs.lemmas.List.{append-nil, length-append}
use Rattle.files.specs.Form.{line}
use Rattle.kinds.specs.declared.pairs.Pair.{Pair}
use Rattle.kinds.specs.Bounded.{is_zero}
use Rattle.kinds.specs.Pairs.{mean, put}
use Rattle.monomials.specs.declared.dimension.Dimension.{Dimension}
use Rattle.monomials.specs.declared.dimension.Dimension.TheVariants.{Plane, Space}
use Rattle.monomials.specs.declared.monomial.Monomial.{Monomial}
use Rattle.monomials.specs.Dimensions.{size_of}
use Rattle.monomials.specs.Places.{exponents, monomial_at, monomials_from}
use Rattle.monomials.proofs.Listed.{count_from, from_here}
use Rattle.monomials.proofs.Walks.{at_low}
use Rattle.writer.specs.declared.write.Writer.{Writer}
use Rattle.writer.specs.Steps.{Room, WritesOn}
use Rattle.writer.specs.Terms.{row_of, term, terms}
use Rattle.writer.proofs.Lengths.{row_long, row_bits}
use Rattle.writer.proofs.Puts.{writes_none, writes_then}

is_nonzero : (z : ℤ) → (z ≡ pos 0 → ⊥) → eqb (nat_abs z) 0 ≡ false
is_nonzero (pos zero) n = absurd (n refl)
is_nonzero (pos (suc k)) n = eqb-suc-zero k
is_nonzero (negsuc k) n = eqb-suc-zero k

-- the line of a coefficient that is not zero, whose row a call has by its bits
pub term_line : (m : Monomial) (p q : Pair) → q ≡ put (mean p) → SFits w64 q.num → SFits w64 q.den → (of_z w64 q.num ≡ 0 → ⊥) → term m p ≡ line (row_bits m q)
unfolding is_zero put
term_line m p q e f g n =
    let z : q.num ≡ (mean p).num = ap (λ (x : Pair). x.num) e in
    let k : eqb (nat_abs (mean p).num) 0 ≡ false = is_nonzero (mean p).num (λ h. n (ap (of_z w64) (z ∙ h))) in
    cond-false _ _ _ k ∙ (ap (λ (x : Pair). line (row_of m x)) (sym e) ∙ ap (λ (x : Pair). line (row_of m x)) (λ i. record { num = sym (to_z-of_z w64 q.num f) i; den = sym (to_z-of_z w64 q.den g) i }))

pub term_none : (m : Monomial) (p q : Pair) → q ≡ put (mean p) → SFits w64 q.num → of_z w64 q.num ≡ 0 → term m p ≡ []
unfolding is_zero put
term_none m p q e f n =
    let z : (mean p).num ≡ pos 0 = sym (ap (λ (x : Pair). x.num) e) ∙ (sym (to_z-of_z w64 q.num f) ∙ ap (to_z w64) n) in
    let k : eqb (nat_abs (mean p).num) 0 ≡ true = ap (λ (x : ℤ). eqb (nat_abs x) 0) z in
    cond-true _ _ _ k

unless_long : (t : Bool) (bs : List ℕ) → length bs ≤ 33 → length (cond t [] bs) ≤ 33
unless_long true bs h = omega arith
unless_long false bs h = h

term_long : (m : Monomial) (p : Pair) → exponents m ≤ 12 → length (term m p) ≤ 33
term_long m p h = unless_long (is_zero (mean p)) (line (row_of m (put (mean p)))) (row_long m p h)

pub none_left : (ms : List Monomial) (ps : List Pair) → ms ≡ [] → terms ms ps ≡ []
none_left ms ps e = ap (λ (x : List Monomial). terms x ps) e

pub none_beside : (ms : List Monomial) (ps : List Pair) → length ps ≡ 0 → terms ms ps ≡ []
none_beside [] ps h = refl
none_beside (m ∷ ms) [] h = refl
none_beside (m ∷ ms) (p ∷ ps) h = absurd (omega arith)

size_small : (d : Dimension) → size_of d ≤ 455
size_small Plane = omega arith
size_small Space = omega arith

-- of the terms beside the monomials of the dimension d, the first n are written, and those of ms and qs are left
pub record Begun (d : Dimension) (ps : List Pair) (w v : Writer) (ms : List Monomial) (qs : List Pair) (n : ℕ) : Type 0 where
  pub bs : List ℕ
  pub on : WritesOn w bs v
  pub rest : bs ++ terms ms qs ≡ terms (monomials_from d 0) ps
  pub left : ms ≡ monomials_from d n
  pub short : length bs ≤ 33 * n

pub begun_none : (d : Dimension) (ps : List Pair) (w : Writer) (ms : List Monomial) (qs : List Pair) → ms ≡ monomials_from d 0 → qs ≡ ps → w.at ≤ length w.text.now → Begun d ps w w ms qs 0
begun_none d ps w ms qs e g h =
    record { bs = []; on = writes_none w h; rest = ap (λ (x : List Monomial). terms x qs) e ∙ ap (terms (monomials_from d 0)) g; left = e; short = omega arith }

-- the first of the monomials left, from place n on, has a degree that a table has, and the others are those from the next place on
record First (d : Dimension) (n : ℕ) (m : Monomial) (rest : List Monomial) : Type 0 where
  few : n < 455
  low : exponents m ≤ 12
  left : rest ≡ monomials_from d (n + 1)

first : (d : Dimension) (n : ℕ) (m : Monomial) (rest : List Monomial) → monomials_from d n ≡ m ∷ rest → First d n m rest
first d n m rest e =
    let lt : n < size_of d = omega (arith, count_from d n, ap length e) in
    let h = from_here d n (monomial_at d n) lt refl in
    let q : monomial_at d n ≡ m = cc in
    record { few = omega (arith, size_small d); low = subst (λ k. exponents k ≤ 12) q (at_low d n lt); left = cc }

module _ {d : Dimension} {ps : List Pair} {w v : Writer} {ms : List Monomial} {qs : List Pair} {n : ℕ} (b : Begun d ps w v ms qs n) where
  pub term_room : (m : Monomial) (q : Pair) (ns : List Monomial) → w.at ≡ 14 → ms ≡ m ∷ ns → Room v (term m q)
  term_room m q ns a e =
      let f = first d n m ns (sym b.left ∙ e) in
      omega (arith, term_long m q f.low, f.few, b.short, b.on.put.place)

  pub begun_more : {u : Writer} (m : Monomial) (q : Pair) (ns : List Monomial) (rs : List Pair) (k : ℕ) → ms ≡ m ∷ ns → qs ≡ q ∷ rs → WritesOn v (term m q) u → k ≡ n + 1 → Begun d ps w u ns rs k
  begun_more m q ns rs k e g p h =
      let f = first d n m ns (sym b.left ∙ e) in
      record {
        bs = b.bs ++ term m q;
        on = writes_then b.on p;
        rest = append_assoc b.bs (term m q) (terms ns rs) ∙ (ap (λ x. b.bs ++ x) (sym (ap (λ x. terms x qs) e ∙ ap (terms (m ∷ ns)) g)) ∙ b.rest);
        left = f.left ∙ ap (monomials_from d) (sym h);
        short = omega (arith, length-append b.bs (term m q), term_long m q f.low, b.short);
      }

  pub begun_all : terms ms qs ≡ [] → WritesOn w (terms (monomials_from d 0) ps) v
  begun_all e = subst (λ x. WritesOn w x v) (sym (append-nil b.bs) ∙ (ap (λ x. b.bs ++ x) (sym e) ∙ b.rest)) b.on
