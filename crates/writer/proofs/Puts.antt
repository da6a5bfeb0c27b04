-- What is written at a place, piece after piece.
use Rattle.std.proofs.Common.{◌≡◌, ℕ, ◌+◌, ◌-◌, ◌≤◌, List, [], ◌∷◌, ◌++◌, length, take, drop, decimal, sym, refl, ap, ◌∙◌, subst, append_assoc, arith}
use Rattle.std.specs.Fmt.{signed_decimal}
use Rattle.std.proofs.lemmas.List.{take_at, drop_at, drop-drop, length-append, length-take-le, length-drop, take-append-drop}
use Rattle.files.specs.declared.row.Row.{Row}
use Rattle.files.specs.Form.{line}
use Rattle.writer.specs.declared.write.Writer.{Writer}
use Rattle.writer.specs.Steps.{Room, WritesOn}
use Rattle.writer.specs.Writes.{Put}

length_front : (e : List ℕ) (at : ℕ) (bs x : List ℕ) (to : ℕ) → Put e at bs x to → length (take at e ++ bs) ≡ to
length_front e at bs x to p =
    let l = length-append (take at e) bs in
    let t = length-take-le at e (omega (arith, p.place, p.within)) in
    omega (arith, p.place)

grouped : (e : List ℕ) (at : ℕ) (bs x : List ℕ) (to : ℕ) → Put e at bs x to → x ≡ (take at e ++ bs) ++ drop to e
grouped e at bs x to p = p.is ∙ sym (append_assoc (take at e) bs (drop to e))

pub put_front : (e : List ℕ) (at : ℕ) (bs x : List ℕ) (to : ℕ) → Put e at bs x to → take to x ≡ take at e ++ bs
put_front e at bs x to p = ap (take to) (grouped e at bs x to p) ∙ take_at (take at e ++ bs) (drop to e) to (length_front e at bs x to p)

pub put_rest : (e : List ℕ) (at : ℕ) (bs x : List ℕ) (to u : ℕ) → Put e at bs x to → to ≤ u → drop u x ≡ drop u e
put_rest e at bs x to u p h =
    let k : to + (u - to) ≡ u = omega arith in
    ap (λ (n : ℕ). drop n x) (sym k) ∙ (sym (drop-drop (u - to) to x) ∙ (ap (drop (u - to)) (ap (drop to) (grouped e at bs x to p) ∙ drop_at (take at e ++ bs) (drop to e) to (length_front e at bs x to p))
    ∙ (drop-drop (u - to) to e ∙ ap (λ (n : ℕ). drop n e) k)))

pub put_length : (e : List ℕ) (at : ℕ) (bs x : List ℕ) (to : ℕ) → Put e at bs x to → length x ≡ length e
put_length e at bs x to p =
    let f = length_front e at bs x to p in
    let l = length-append (take at e ++ bs) (drop to e) in
    let d = length-drop to e in
    ap length (grouped e at bs x to p) ∙ omega (arith, p.within)

pub put_then : (e : List ℕ) (at : ℕ) (bs x : List ℕ) (to : ℕ) (cs y : List ℕ) (u : ℕ) → Put e at bs x to → Put x to cs y u → Put e at (bs ++ cs) y u
put_then e at bs x to cs y u p q =
    let l = length-append bs cs in
    let n = put_length e at bs x to p in
    record {
      place = omega (arith, p.place, q.place);
      within = omega (arith, q.within);
      is = q.is ∙ (ap (λ (f : List ℕ). f ++ (cs ++ drop u x)) (put_front e at bs x to p) ∙ (ap (λ (r : List ℕ). (take at e ++ bs) ++ (cs ++ r)) (put_rest e at bs x to u p (omega (arith, q.place))) ∙ simp append_assoc));
    }

pub writes_none : (w : Writer) → w.at ≤ length w.text.now → WritesOn w [] w
writes_none w h = record { lent = refl; put = record { place = omega arith; within = h; is = sym (take-append-drop w.at w.text.now) } }

pub writes_then : {w v u : Writer} {bs cs : List ℕ} → WritesOn w bs v → WritesOn v cs u → WritesOn w (bs ++ cs) u
writes_then {w} {v} {u} {bs} {cs} p q =
    record { lent = q.lent ∙ p.lent; put = put_then w.text.now w.at bs v.text.now v.at cs u.text.now u.at p.put q.put }

-- what is written from the beginning of a text on
pub put_start : {w v : Writer} {bs : List ℕ} (e cs x : List ℕ) (to : ℕ) → (w.text.now ≡ e) × (w.at ≡ 0) → WritesOn w bs v → bs ≡ cs → x ≡ v.text.now → to ≡ v.at → Put e 0 cs x to
put_start {w} {v} {bs} e cs x to s p q k t =
    let a : Put e w.at bs v.text.now v.at = subst (λ (y : List ℕ). Put y w.at bs v.text.now v.at) s.0 p.put in
    let b : Put e 0 bs v.text.now v.at = subst (λ (n : ℕ). Put e n bs v.text.now v.at) s.1 a in
    let d : Put e 0 cs v.text.now v.at = subst (λ (ds : List ℕ). Put e 0 ds v.text.now v.at) q b in
    subst (Put e 0 cs x) (sym t) (subst (λ (y : List ℕ). Put e 0 cs y v.at) (sym k) d)

-- the words of a whole line
pub row_written : {w v : Writer} (r : Row) →
    WritesOn w (((((decimal r.a ++ (32 ∷ [])) ++ (decimal r.b ++ (32 ∷ []))) ++ (decimal r.c ++ (32 ∷ []))) ++ (signed_decimal r.num ++ (32 ∷ []))) ++ (signed_decimal r.den ++ (10 ∷ []))) v → WritesOn w (line r) v
row_written {w} {v} r p = subst (λ (bs : List ℕ). WritesOn w bs v) (simp append_assoc) p

-- room for the rest of what there is room for
pub room_left : {w v : Writer} {bs : List ℕ} (cs : List ℕ) → WritesOn w bs v → Room w (bs ++ cs) → Room v cs
room_left {w} {v} {bs} cs p h = omega (arith, p.put.place, length-append bs cs)
