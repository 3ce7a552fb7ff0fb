-- A file that is read in part.
use Rattle.std.proofs.Common.{◌≡◌, inl, ℕ, ◌≤◌, ◌<◌, true, List, [], ◌++◌, length, take, Some, arith, refl, sym, ◌∙◌, ap}
use Rattle.std.proofs.lemmas.List.{append-nil, take_all, take_at}
use Rattle.ti_io.specs.Source.{SourceState, SameFiles, ReadAnswers, IsMissing, Holds, content_of}
use Rattle.ti_top.specs.CommandCall.{most_read}
use Rattle.ti_top.specs.Mirrors.Reading.{ReadsWhole}
use Rattle.ti_top.specs.declared.reading.ReadEnd.TheVariants.{Whole}

-- the text is read, and the rest is left
pub record ReadSoFar (name : List ℕ) (old new : SourceState) (text : List ℕ) : Type 0 where
  pub still : new.faults ≡ old.faults
  pub same : SameFiles old new
  pub within : length text ≤ most_read
  pub taken : old.tells ≡ true → content_of old.files name ≡ Some (text ++ new.left)

-- the whole is what is read and what is left
whole_is : (name : List ℕ) (old new : SourceState) (text whole : List ℕ) → ReadSoFar name old new text → Holds old name whole → whole ≡ text ++ new.left
whole_is name old new text whole so_far holds =
    let t = so_far.taken holds.tells in
    let s = holds.some in
    cc

not_missing : (name : List ℕ) (old new : SourceState) (text : List ℕ) → ReadSoFar name old new text → IsMissing old name → ⊥
not_missing name old new text so_far missing =
    let t = so_far.taken missing.tells in
    let s = missing.none in
    cc

-- the end is reached: nothing is left
pub read_end : (name : List ℕ) (old mid new : SourceState) (text buffer : List ℕ) → ReadSoFar name old mid text → new.faults ≡ mid.faults
    → SameFiles mid new → ReadAnswers buffer mid new 0 → 0 < length buffer → ReadsWhole name old new text Whole
read_end name old mid new text buffer so_far still same answer room = record {
  never_falls = omega (arith, so_far.still, still);
  same = record { tells = same.tells ∙ so_far.same.tells; files = same.files ∙ so_far.same.files };
  bound = so_far.within;
  front = λ whole holds. (mid.left, sym (whole_is name old mid text whole so_far holds));
  whole = λ whole holds _.
      let none : mid.left ≡ [] = (answer.at_end (so_far.same.tells ∙ holds.tells) room).0 refl in
      let is : whole ≡ text = whole_is name old mid text whole so_far holds ∙ ap (λ t. text ++ t) none ∙ append-nil text in
      sym (ap (take most_read) is ∙ take_all most_read text so_far.within);
  cause = λ e. absurd (let x = e in cc);
  missing = λ missing. absurd (not_missing name old mid text so_far missing);
  failed = inl (still ∙ so_far.still);
  nothing = λ missing. absurd (not_missing name old mid text so_far missing);
}

-- the most that is read is there
pub read_most : (name : List ℕ) (old new : SourceState) (text : List ℕ) → ReadSoFar name old new text → most_read ≤ length text → ReadsWhole name old new text Whole
read_most name old new text so_far full = record {
  never_falls = omega (arith, so_far.still);
  same = so_far.same;
  bound = so_far.within;
  front = λ whole holds. (new.left, sym (whole_is name old new text whole so_far holds));
  whole = λ whole holds _.
      let exact : length text ≡ most_read = omega (arith, so_far.within) in
      sym (ap (take most_read) (whole_is name old new text whole so_far holds) ∙ take_at text new.left most_read exact);
  cause = λ e. absurd (let x = e in cc);
  missing = λ missing. absurd (not_missing name old new text so_far missing);
  failed = inl so_far.still;
  nothing = λ missing. absurd (not_missing name old new text so_far missing);
}
