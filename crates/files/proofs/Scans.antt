-- The step of the loop over a word.
use Rattle.std.proofs.Common.{◌≡◌, ℕ, ◌+◌, ◌-◌, ◌<◌, Bool, List, [], ◌∷◌, ◌++◌, length, get_or, take, drop, Some, sym, ap, ◌∙◌, subst, arith}
use Rattle.std.proofs.lemmas.List.{get_or-drop, length-drop, take_all}
use Rattle.std.proofs.lemmas.List.Edits.{between_more}
use Rattle.files.specs.declared.part.Part.{Part}
use Rattle.files.specs.Words.{grow, Reading}
use Rattle.files.proofs.Grows.{grow_good, Grown}

reading_more : (text : List ℕ) (from : ℕ) (sign : Bool) (to : ℕ) (part more : Part) → Reading text from sign to part → to < length text →
    grow sign part (get_or text to 0) ≡ Some more → Reading text from sign (to + 1) more
reading_more text from sign to part more r l e =
    let g : Grown sign part (get_or text to 0) (Some more) = subst (Grown sign part (get_or text to 0)) e (grow_good sign part (get_or text to 0) r.allowed r.range) in
    record {
      forward = omega (arith, r.forward);
      within = omega arith;
      reads = between_more text from to 0 r.forward l ∙ (ap (λ (x : List ℕ). x ++ (get_or text to 0 ∷ [])) r.reads ∙ sym g.reads);
      allowed = g.allowed;
      range = g.range;
    }

-- the same of the text from the place `from` on, as it is cut off
pub reading_next : (text : List ℕ) (from : ℕ) (sign : Bool) (i : ℕ) (part more : Part) → Reading text from sign (from + i) part → i < length (take (length text - from) (drop from text)) →
    grow sign part (get_or (take (length text - from) (drop from text)) i 0) ≡ Some more → Reading text from sign (from + (i + 1)) more
reading_next text from sign i part more r l e =
    let d : length (drop from text) ≡ length text - from = length-drop from text in
    let a : take (length text - from) (drop from text) ≡ drop from text = take_all (length text - from) (drop from text) (omega arith) in
    let k : i < length (drop from text) = subst (λ (x : List ℕ). i < length x) a l in
    let q : grow sign part (get_or text (from + i) 0) ≡ Some more =
    ap (grow sign part) (sym (get_or-drop from text i 0) ∙ ap (λ (x : List ℕ). get_or x i 0) (sym a)) ∙ e in
    subst (λ (n : ℕ). Reading text from sign n more) (omega arith) (reading_more text from sign (from + i) part more r (omega arith) q)
