-- Lines that are taken off what is held and left.
use Rattle.std.proofs.Common.{◌≡◌, ◌∙◌, inl, inr, ℕ, zero, suc, ◌+◌, ◌-◌, ◌<◌, ◌≤◌, min, true, false, List, [], ◌∷◌, ◌++◌, length, take, drop, refl, sym, ap, subst, arith, take-add, append-nil, append_assoc, length-append}
use Rattle.std.specs.List.{slice_range}
use Rattle.std.proofs.lemmas.List.{take-append-drop, take-take, take_at, drop-drop, length-take}
use Rattle.ti_watch.specs.Lines.{line_room}
use Rattle.ti_trace_check.specs.declared.line_reader.LineReader.{LineReader}
use Rattle.ti_trace_check.specs.Lines.{has_no_end, first_line}
use Rattle.ti_trace_check.specs.Mirrors.LineReader.{held, Fills, TakesLine}
use Rattle.ti_trace_check.proofs.FirstLines.{past, no_end, plus_none, some_line, line_whole, line_front, none_more}

-- ---- what is held

-- its first bytes, and what is held behind them
held_split : (b : List ℕ) (at n m : ℕ) → slice_range b at (at + (n + m)) ≡ take n (slice_range b at (at + (n + m))) ++ slice_range b (at + n) (at + (n + m))
held_split b at n m = rw (first at (n + m), second at n m) (both b at n m)
  where
    first : (at k : ℕ) → at + k - at ≡ k
    first at k = omega arith

    second : (at n m : ℕ) → at + (n + m) - (at + n) ≡ m
    second at n m = omega arith

    fewer : (n m : ℕ) → n ≤ n + m
    fewer n m = omega arith

    both : (b : List ℕ) (at n m : ℕ) → take (n + m) (drop at b) ≡ take n (take (n + m) (drop at b)) ++ take m (drop (at + n) b)
    both b at n m =
        take-add n m (drop at b)
        ∙ ap (λ xs. take n (drop at b) ++ take m xs) (drop-drop n at b)
        ∙ ap (λ xs. xs ++ take m (drop (at + n) b)) (sym (take-take n (n + m) (drop at b) (fewer n m)))

-- the text so far: the line that was taken, without a line end, and what is held and left
pub record Taken (text line held left : List ℕ) : Type 0 where
  pub off : text ≡ line ++ (held ++ left)
  pub no_end : has_no_end line ≡ true

-- where nothing is held and left any more, the line is all there is
pub taken_all : (text line held left front : List ℕ) (most : ℕ) → 0 < most → front ≡ first_line (take most held) → front ≡ []
    → (held ≡ [] → left ≡ []) → Taken text line held left → TakesLine text line (held ++ left)
taken_all text line held left front most some is none at_end x =
    let nothing : held ≡ [] = empty most held some (some_line (take most held) (sym is ∙ none)) in
    let all : text ≡ line = x.off ∙ ap (λ h. line ++ h) (ap (λ h. h ++ left) nothing ∙ at_end nothing) ∙ append-nil line in
    record {
      off = x.off;
      first = record { more = []; begins = ap first_line all ∙ no_end line x.no_end ∙ sym (append-nil line); whole = inl refl };
    }
  where
    empty : (n : ℕ) (xs : List ℕ) → 0 < n → take n xs ≡ [] → xs ≡ []
    empty zero xs l e = absurd (omega (arith, l))
    empty (suc n) [] l e = refl
    empty (suc n) (x ∷ xs) l e = absurd (none_more x (take n xs) (sym e))

-- the first line of the first bytes is a front of the text
pub front_of : (held : List ℕ) (most : ℕ) → (rest : List ℕ) × (held ≡ first_line (take most held) ++ rest)
front_of held most =
    let r = line_front (take most held) in
    (r.0 ++ drop most held, sym (take-append-drop most held) ∙ ap (λ h. h ++ drop most held) r.1 ∙ append_assoc (first_line (take most held)) r.0 (drop most held))

-- a front with a line end ends the line
pub taken_end : (text line held left front later new : List ℕ) (most : ℕ) → new ≡ line ++ front → front ≡ first_line (take most held) → held
    ≡ front ++ later → has_no_end front ≡ false → Taken text line held left → TakesLine text new (later ++ left)
taken_end text line held left front later new most same is split ends x = subst (λ (l : List ℕ). TakesLine text l (later ++ left)) (sym same) (record {
  off = x.off ∙ ap (λ h. line ++ h) (ap (λ h. h ++ left) split ∙ append_assoc front later left) ∙ sym (append_assoc line front (later ++ left));
  first = record {
    more = [];
    begins = ap first_line x.off ∙ past line (held ++ left) x.no_end ∙ ap (λ h. line ++ h) whole ∙ sym (append-nil (line ++ front));
    whole = inl refl;
  };
})
  where
    piece : held ++ left ≡ take most held ++ (drop most held ++ left)
    piece = ap (λ h. h ++ left) (sym (take-append-drop most held)) ∙ append_assoc (take most held) (drop most held) left

    whole : first_line (held ++ left) ≡ front
    whole = ap first_line piece ∙ line_whole (take most held) (ap has_no_end (sym is) ∙ ends) (drop most held ++ left) ∙ sym is

-- one without goes on
pub taken_on : (text line held left front later new : List ℕ) → new ≡ line ++ front → held ≡ front ++ later → has_no_end front ≡ true → Taken text line held left → Taken text new later left
taken_on text line held left front later new same split none x = subst (λ (l : List ℕ). Taken text l later left) (sym same) (record {
  off = x.off ∙ ap (λ h. line ++ h) (ap (λ h. h ++ left) split ∙ append_assoc front later left) ∙ sym (append_assoc line front (later ++ left));
  no_end = plus_none line front x.no_end none;
})

-- a line that is full
pub taken_full : (text line held left : List ℕ) → line_room ≤ length line → Taken text line held left → TakesLine text line (held ++ left)
taken_full text line held left full x = record {
  off = x.off;
  first = record { more = first_line (held ++ left); begins = ap first_line x.off ∙ past line (held ++ left) x.no_end; whole = inr full };
}

-- what was read keeps the text
pub filled : (text line held left now after : List ℕ) → Fills held left now after → Taken text line held left → Taken text line now after
filled text line held left now after f x = record { off = x.off ∙ ap (λ h. line ++ h) f.same; no_end = x.no_end }

shorter : (xs : List ℕ) → length (first_line xs) ≤ length xs
shorter xs = let r = line_front xs in fewer (length xs) (length (first_line xs)) (length r.0) (ap length r.1 ∙ length-append (first_line xs) r.0)
  where
    fewer : (a b c : ℕ) → a ≡ b + c → b ≤ a
    fewer a b c e = omega arith

-- the first line of so many bytes has no more
pub front_short : (held front : List ℕ) (most : ℕ) → front ≡ first_line (take most held) → length front ≤ most
front_short held front most is = fits (length front) (length (first_line (take most held))) (length (take most held)) most (length held)
    (ap length is) (shorter (take most held)) (length-take most held)
  where
    fits : (a b c d e : ℕ) → a ≡ b → b ≤ c → c ≡ min d e → a ≤ d
    fits a b c d e h k l = omega arith

-- what is held behind the first line of its first bytes
pub held_on : (p : LineReader) (front : List ℕ) (most : ℕ) → front ≡ first_line (take most (held p)) → p.at + length front ≤ p.end → held p ≡ front ++ held (record p { at = p.at + length front })
held_on p front most is l =
    let n = length front in
    let m = p.end - (p.at + n) in
    let end : p.end ≡ p.at + (n + m) = whole p.at n p.end l in
    let split : held p ≡ take n (held p) ++ slice_range p.bytes (p.at + n) p.end =
    subst (λ e. slice_range p.bytes p.at e ≡ take n (slice_range p.bytes p.at e) ++ slice_range p.bytes (p.at + n) e) (sym end) (held_split p.bytes p.at n m) in
    let r = front_of (held p) most in
    let first : take n (held p) ≡ front = ap (take n) (r.1 ∙ ap (λ f. f ++ r.0) (sym is)) ∙ take_at front r.0 n refl in
    split ∙ ap (λ f. f ++ slice_range p.bytes (p.at + n) p.end) first
  where
    whole : (a n e : ℕ) → a + n ≤ e → e ≡ a + (n + (e - (a + n)))
    whole a n e l = omega arith
