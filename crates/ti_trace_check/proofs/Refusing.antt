-- Lines that are those of no entry.
use Rattle.std.proofs.Common.{◌≡◌, ◌⊎◌, inl, inr, ℕ, suc, ◌+◌, ◌-◌, ◌<◌, ◌≤◌, List, [], ◌∷◌, ◌++◌, length, take, refl, ap, sym, ◌∙◌, subst, arith, append_assoc, append-nil, length-append}
use Rattle.std.specs.Prelude.{Option, Some, None, codes, decimal, slice_get}
use Rattle.std.proofs.lemmas.List.{take_at, take_all, get_or_push}
use Rattle.std.proofs.lemmas.Fmt.{length-decimal-le}
use Rattle.std.proofs.lemmas.Option.{same_Some, slice_get_read}
use Rattle.ti_base.specs.declared.entry.Entry.{Entry}
use Rattle.ti_lang.specs.Meaning.Processes.{RunConfig}
use Rattle.ti_lang.specs.Meaning.Runs.{CanTake}
use Rattle.ti_lang.proofs.Lemmas.{entry_same}
use Rattle.ti_watch.specs.Lines.{line_room}
use Rattle.ti_watch.specs.Reports.{entry_text}
use Rattle.ti_trace_check.specs.Mirrors.Replaying.{IsWrongLine}
use Rattle.ti_trace_check.proofs.FirstLines.{same_byte, same_rest}
use Rattle.ti_trace_check.proofs.Texts.{behind, cut}

none_some : (p : ℕ) → ◌≡◌ {A = Option ℕ} None (Some p) → ⊥
none_some p e = cc

-- the shorter of two fronts of one text is a front of the longer
front_in : (front line more rest : List ℕ) → line ++ more ≡ front ++ rest → length front ≤ length line → (z : List ℕ) × (line ≡ front ++ z)
front_in [] line more rest e l = (line, refl)
front_in (x ∷ xs) [] more rest e l = absurd (none (length xs) l)
  where
    none : (n : ℕ) → suc n ≤ 0 → ⊥
    none n l = omega (arith, l)
front_in (x ∷ xs) (y ∷ ys) more rest e l =
    let r = front_in xs ys more rest (same_rest y x (ys ++ more) (xs ++ rest) e) (less (length xs) (length ys) l) in
    (r.0, both y x ys (xs ++ r.0) (same_byte y x (ys ++ more) (xs ++ rest) e) r.1)
  where
    less : (m n : ℕ) → suc m ≤ suc n → m ≤ n
    less m n l = omega (arith, l)

    both : (a b : ℕ) (cs bs : List ℕ) → a ≡ b → cs ≡ bs → a ∷ cs ≡ b ∷ bs
    both a b cs bs x y = cc

-- a line of this number names the process
abbrev pub NamesIn : ℕ → List ℕ → ℕ → Type 0
NamesIn n line p = (z : List ℕ) × (line ≡ decimal n ++ codes " p" ++ decimal p ++ 32 ∷ z)

-- so does as much of it as a line may have bytes
pub names_line : (n : ℕ) (e : Entry) (line more : List ℕ) → e.proc < 100 → length (decimal n) ≤ 20 → entry_text n e ≡ line ++ more → (more ≡ []) ⊎ (line_room ≤ length line) → NamesIn n line e.proc
names_line n e line more small short z which = by which
  where
    head : List ℕ
    head = decimal n ++ codes " p" ++ decimal e.proc

    text : entry_text n e ≡ (head ++ 32 ∷ []) ++ (behind e ++ [])
    text =
        sym (append-nil (entry_text n e)) ∙ cut n e []
        ∙ sym (append_assoc (head) (32 ∷ []) (behind e ++ []) ∙ append_assoc (decimal n ++ codes " p") (decimal e.proc)
        (32 ∷ (behind e ++ [])) ∙ append_assoc (decimal n) (codes " p") (decimal e.proc ++ 32 ∷ (behind e ++ [])))

    two : length (decimal e.proc) ≤ 2
    two = length-decimal-le 2 e.proc (omega arith) (omega (arith, small)) (omega (arith, small))

    long : line_room ≤ length line → length (head ++ 32 ∷ []) ≤ length line
    long l =
        let a = length-append head (32 ∷ []) in
        let b = length-append (decimal n ++ codes " p") (decimal e.proc) in
        let c = length-append (decimal n) (codes " p") in
        fits (length line) (length (head ++ 32 ∷ [])) (length head) (length (decimal n ++ codes " p")) (length (decimal n)) (length (decimal e.proc)) l a b c two short
      where
        fits : (l a b c d f : ℕ) → 512 ≤ l → a ≡ b + 1 → b ≡ c + f → c ≡ d + 2 → f ≤ 2 → d ≤ 20 → a ≤ l
        fits l a b c d f h i j k m n = omega arith

    named : (z : List ℕ) → line ≡ (head ++ 32 ∷ []) ++ z → NamesIn n line e.proc
    named z is = (z, is ∙ append_assoc head (32 ∷ []) z)

    by : (more ≡ []) ⊎ (line_room ≤ length line) → NamesIn n line e.proc
    by (inl none) = named (behind e ++ []) (sym (append-nil line) ∙ ap (λ m. line ++ m) (sym none) ∙ sym z ∙ text)
    by (inr l) = let r = front_in (head ++ 32 ∷ []) line more (behind e ++ []) (sym z ∙ text) (long l) in named r.0 r.1

-- ---- why a line is off

-- what the code finds is the process that the line of the entry of this number names
abbrev pub Finds : ℕ → List ℕ → Option ℕ → Type 0
Finds number line result = (p : ℕ) (more : List ℕ) → p < 100 → line ≡ decimal number ++ codes " p" ++ decimal p ++ 32 ∷ more → result ≡ Some p

pub finds_of : (m n : ℕ) (line : List ℕ) (result : Option ℕ) → m ≡ n → Finds m line result → Finds n line result
finds_of m n line result same f = subst (λ k. Finds k line result) same f

pub short_of : (m n : ℕ) → m ≡ n → length (decimal m) ≤ 20 → length (decimal n) ≤ 20
short_of m n same f = subst (λ k. length (decimal k) ≤ 20) same f

-- the same of a line and a setting that are the same
pub off_of : (s t : RunConfig) (es all : List Entry) (line same : List ℕ) → s ≡ t → line ≡ same → IsWrongLine s es all line → IsWrongLine t es all same
off_of s t es all line same e f x = subst (λ l. IsWrongLine t es all l) f (subst (λ z. IsWrongLine z es all line) e x)

module _ (s : RunConfig) (es : List Entry) (line : List ℕ) (few : s.procs ≤ 32) (result : Option ℕ) (names : Finds (length es) line result)
    (short : length (decimal (length es)) ≤ 20) where
  below : (i n : ℕ) → i < n → n ≤ 32 → i < 100
  below i n l m = omega arith

  named : (e : Entry) → CanTake s es e.proc e → (more : List ℕ) → entry_text (length es) e ≡ line ++ more → (more ≡ []) ⊎ (line_room ≤ length line) → result ≡ Some e.proc
  named e t more z which =
      let small = below e.proc s.procs t.within few in
      let r = names_line (length es) e line more small short z which in
      names e.proc r.0 small r.1

  not_longer : (n : ℕ) → n ≤ n
  not_longer n = omega arith

  -- it names no process
  pub unnamed : result ≡ None → IsWrongLine s es es line
  unnamed none = record {
    kept = take_all (length es) es (not_longer (length es));
    within = not_longer (length es);
    none = λ e t more z which. none_some e.proc (sym none ∙ named e t more z which);
  }

  -- one that isn't there
  pub outside : (p : ℕ) → result ≡ Some p → s.procs ≤ p → IsWrongLine s es es line
  outside p is l = record {
    kept = take_all (length es) es (not_longer (length es));
    within = not_longer (length es);
    none = λ e t more z which.
        let same : p ≡ e.proc = same_Some p e.proc (sym is ∙ named e t more z which) in
        apart p e.proc s.procs same t.within l;
  }
    where
      apart : (p q n : ℕ) → p ≡ q → q < n → n ≤ p → ⊥
      apart p q n h k l = absurd (omega (arith, h, k, l))

  -- one that can take no entry
  pub none_taken : (p : ℕ) (all : List Entry) → result ≡ Some p → all ≡ es → ((e : Entry) → CanTake s es p e → ⊥) → IsWrongLine s es all line
  none_taken p all is same none = record {
    kept = ap (take (length es)) same ∙ take_all (length es) es (not_longer (length es));
    within = subst (λ xs. length es ≤ length xs) (sym same) (not_longer (length es));
    none = λ e t more z which. none e (subst (λ i. CanTake s es i e) (sym (same_Some p e.proc (sym is ∙ named e t more z which))) t);
  }

  -- its entry has another line
  pub other_line : (p : ℕ) (entry : Entry) (all : List Entry) → result ≡ Some p → CanTake s es p entry → all ≡ es ++ entry ∷ []
      → (entry_text (length es) entry ≡ line → ⊥) → length (entry_text (length es) entry) ≤ 345
      → IsWrongLine s es all line
  other_line p entry all is can after other bound = record {
    kept = ap (take (length es)) after ∙ take_at es (entry ∷ []) (length es) refl;
    within = subst (λ xs. length es ≤ length xs) (sym after) (more_left (length es) (length (es ++ entry ∷ [])) (length-append es (entry ∷ [])));
    none = λ e t more z which.
        let own = subst (λ i. CanTake s es i e) (sym (same_Some p e.proc (sym is ∙ named e t more z which))) t in
        let one : entry ≡ e = entry_same s es p entry e can own in
        off more (ap (entry_text (length es)) one ∙ z) which;
  }
    where
      more_left : (m n : ℕ) → n ≡ m + 1 → m ≤ n
      more_left m n e = omega arith

      too_long : (a b c : ℕ) → a ≡ b + c → a ≤ 345 → 512 ≤ b → ⊥
      too_long a b c e l m = absurd (omega (arith, e, l, m))

      off : (more : List ℕ) → entry_text (length es) entry ≡ line ++ more → (more ≡ []) ⊎ (line_room ≤ length line) → ⊥
      off more z (inl none) = other (z ∙ ap (λ m. line ++ m) none ∙ append-nil line)
      off more z (inr long) = too_long (length (entry_text (length es) entry)) (length line) (length more) (ap length z ∙ length-append line more) bound long

-- the last entry, after one more
module _ (es all read : List Entry) (e : Entry) (last : Option Entry) (same : read ≡ all) (after : all ≡ es ++ e ∷ []) (is : last ≡ slice_get read (length read - 1)) where
  one_less : (m n : ℕ) → m ≡ n + 1 → (m - 1 ≡ n) × (n < m)
  one_less m n h = (omega (arith, h), omega (arith, h))

  pushed : slice_get (es ++ e ∷ []) (length (es ++ e ∷ []) - 1) ≡ Some e
  pushed =
      let at = one_less (length (es ++ e ∷ [])) (length es) (length-append es (e ∷ [])) in
      ap (slice_get (es ++ e ∷ [])) at.0
      ∙ slice_get_read (es ++ e ∷ []) (length (es ++ e ∷ [])) (length es) e refl at.1 (sym (get_or_push es e e (length es) refl))

  it : last ≡ Some e
  it = is ∙ ap (λ (xs : List Entry). slice_get xs (length xs - 1)) (same ∙ after) ∙ pushed

  pub last_there : last ≡ None → ⊥
  last_there none = let e = sym none ∙ it in cc

  pub last_same : (d : Entry) → last ≡ Some d → d ≡ e
  last_same d some = same_Some d e (sym some ∙ it)

-- its line
pub line_is : (n : ℕ) (es : List Entry) (d e : Entry) (line : List ℕ) → n ≡ length es → d ≡ e → line ≡ entry_text n d → line ≡ entry_text (length es) e
line_is n es d e line at same is = is ∙ ap (λ k. entry_text k d) at ∙ ap (entry_text (length es)) same
