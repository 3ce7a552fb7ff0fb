-- The heads and columns of entries: they show them, and after an append, from the end, and after a truncation.
use Rattle.std.proofs.Common.{◌≡◌, ℕ, ◌+◌, ◌-◌, List, [], ◌∷◌, ◌++◌, map, length, take, drop, slice_get, Some, ◌⊎◌, inl, inr, ⊎_elim, subst, refl, sym, ap, ◌∙◌, arith, append-nil, length-append}
use Rattle.std.proofs.lemmas.List.{map-append, drop_at, take_at, take-map, drop-map, take-append-drop}
use Rattle.std.proofs.lemmas.List.Concat.{flat_map-append}
use Rattle.ti_base.specs.declared.entry.Entry.{Entry}
use Rattle.ti_history.specs.declared.counts.Counts.{Counts}
use Rattle.ti_history.specs.declared.head.Head.{Head}
use Rattle.ti_history.specs.Mirrors.Packing.{head_of, Lists, joined, no_lists, lists_of, all_lists}
use Rattle.ti_history.specs.Mirrors.Reading.{without_first, firsts, lengths, without_entry, without_entries, entry_of, behind, entries_in, IsPacked}
use Rattle.ti_history.proofs.OneEntry.{entry_back, behind_entry, left_without}

-- ---- columns

joined_nil : (x : Lists) → joined x no_lists ≡ x
joined_nil x = λ i. record {
  things = append-nil x.things i;
  fields = append-nil x.fields i;
  integers = append-nil x.integers i;
  longs = append-nil x.longs i;
  values = append-nil x.values i;
  whole = append-nil x.whole i;
}

all_joined : (es ds : List Entry) → all_lists (es ++ ds) ≡ joined (all_lists es) (all_lists ds)
all_joined es ds = λ i. record {
  things = flat_map-append (λ e. (lists_of e).things) es ds i;
  fields = flat_map-append (λ e. (lists_of e).fields) es ds i;
  integers = flat_map-append (λ e. (lists_of e).integers) es ds i;
  longs = flat_map-append (λ e. (lists_of e).longs) es ds i;
  values = flat_map-append (λ e. (lists_of e).values) es ds i;
  whole = flat_map-append (λ e. (lists_of e).whole) es ds i;
}

firsts_at : (x y : Lists) → firsts (lengths x) (joined x y) ≡ x
firsts_at x y = λ i. record {
  things = take_at x.things y.things (length x.things) refl i;
  fields = take_at x.fields y.fields (length x.fields) refl i;
  integers = take_at x.integers y.integers (length x.integers) refl i;
  longs = take_at x.longs y.longs (length x.longs) refl i;
  values = take_at x.values y.values (length x.values) refl i;
  whole = take_at x.whole y.whole (length x.whole) refl i;
}

rest_at : (x y : Lists) → without_first (lengths x) (joined x y) ≡ y
rest_at x y = λ i. record {
  things = drop_at x.things y.things (length x.things) refl i;
  fields = drop_at x.fields y.fields (length x.fields) refl i;
  integers = drop_at x.integers y.integers (length x.integers) refl i;
  longs = drop_at x.longs y.longs (length x.longs) refl i;
  values = drop_at x.values y.values (length x.values) refl i;
  whole = drop_at x.whole y.whole (length x.whole) refl i;
}

-- ---- all entries

entries_back : (es : List Entry) → entries_in (map head_of es) (all_lists es) ≡ es
entries_back [] = refl
entries_back (e ∷ es) =
    let first = entry_back e (all_lists es) in
    let rest = ap (entries_in (map head_of es)) (behind_entry e (all_lists es)) ∙ entries_back es in
    λ i. first i ∷ rest i

shown : (heads : List Head) (c : Lists) (es : List Entry) → heads ≡ map head_of es → c ≡ all_lists es → entries_in heads c ≡ es
shown heads c es p q = (λ i. entries_in (p i) (q i)) ∙ entries_back es

packed : (heads : List Head) (c : Lists) (es : List Entry) → heads ≡ map head_of es → c ≡ all_lists es → IsPacked heads c
packed heads c es p q = let same = shown heads c es p q in record {
  heads_are = p ∙ sym (ap (map head_of) same);
  lists_are = q ∙ sym (ap all_lists same);
}

-- ---- one more entry

more_heads : (heads : List Head) (c : Lists) (e : Entry) → IsPacked heads c → heads ++ head_of e ∷ [] ≡ map head_of (entries_in heads c ++ e ∷ [])
more_heads heads c e p = ap (λ (hs : List Head). hs ++ head_of e ∷ []) p.heads_are ∙ sym (map-append head_of (entries_in heads c) (e ∷ []))

more_lists : (heads : List Head) (c : Lists) (e : Entry) → IsPacked heads c → joined c (lists_of e) ≡ all_lists (entries_in heads c ++ e ∷ [])
more_lists heads c e p =
    ap (λ (x : Lists). joined x (lists_of e)) p.lists_are
    ∙ ap (joined (all_lists (entries_in heads c))) (sym (joined_nil (lists_of e)))
    ∙ sym (all_joined (entries_in heads c) (e ∷ []))

pub push_shown : (heads : List Head) (c : Lists) (e : Entry) → IsPacked heads c → entries_in (heads ++ head_of e ∷ []) (joined c (lists_of e)) ≡ entries_in heads c ++ e ∷ []
push_shown heads c e p = shown _ _ _ (more_heads heads c e p) (more_lists heads c e p)

pub push_packed : (heads : List Head) (c : Lists) (e : Entry) → IsPacked heads c → IsPacked (heads ++ head_of e ∷ []) (joined c (lists_of e))
push_packed heads c e p = packed _ _ _ (more_heads heads c e p) (more_lists heads c e p)

-- ---- from the end

left_all : (es : List Entry) (x : Lists) → without_entries (lengths (joined x (all_lists es))) (map head_of es) ≡ lengths x
left_all [] x = ap lengths (joined_nil x)
left_all (e ∷ es) x =
    ap (λ (n : Counts). without_entries n (map head_of es)) (left_without e x (all_lists es)) ∙ left_all es x

cut_lists : (es ds : List Entry) → firsts (without_entries (lengths (all_lists (es ++ ds))) (map head_of ds)) (all_lists (es ++ ds)) ≡ all_lists es
cut_lists es ds =
    ap (λ (x : Lists). firsts (without_entries (lengths x) (map head_of ds)) x) (all_joined es ds)
    ∙ ap (λ (n : Counts). firsts n (joined (all_lists es) (all_lists ds))) (left_all ds (all_lists es))
    ∙ firsts_at (all_lists es) (all_lists ds)

-- the list is empty or ends with an element
ends : (es : List Entry) → (es ≡ []) ⊎ ((ds : List Entry) × (e : Entry) × (es ≡ ds ++ e ∷ []))
ends [] = inl refl
ends (e ∷ es) = ⊎_elim
    (λ none. inr ([], e, ap (λ (xs : List Entry). e ∷ xs) none))
    (λ more. inr (e ∷ more.0, more.1, ap (λ (xs : List Entry). e ∷ xs) more.2))
    (ends es)

at_end : {A : Type 0} (xs : List A) (y : A) → slice_get (xs ++ y ∷ []) (length xs) ≡ Some y
at_end [] y = refl
at_end (x ∷ xs) y = at_end xs y

get_end : {A : Type 0} (xs : List A) (y : A) → slice_get (xs ++ y ∷ []) (length (xs ++ y ∷ []) - 1) ≡ Some y
get_end xs y =
    let n : length (xs ++ y ∷ []) - 1 ≡ length xs = omega (arith, length-append xs (y ∷ [])) in
    ap (slice_get (xs ++ y ∷ [])) n ∙ at_end xs y

end_lists : (ds : List Entry) (e : Entry) → let c = all_lists (ds ++ e ∷ []) in entry_of (head_of e) (without_first (without_entry (lengths c) (head_of e)) c) ≡ e
end_lists ds e =
    let x = all_lists ds in let y = joined (lists_of e) no_lists in
    let n : without_entry (lengths (joined x y)) (head_of e) ≡ lengths x =
    left_without e x no_lists ∙ ap lengths (joined_nil x) in
    ap (λ (c : Lists). entry_of (head_of e) (without_first (without_entry (lengths c) (head_of e)) c)) (all_joined ds (e ∷ []))
    ∙ ap (λ (k : Counts). entry_of (head_of e) (without_first k (joined x y))) n
    ∙ ap (entry_of (head_of e)) (rest_at x y)
    ∙ entry_back e no_lists

abbrev IsEnd : List Head → Lists → List Entry → Type 0
IsEnd heads c es =
    (h : Head) → slice_get heads (length heads - 1) ≡ Some h
    → Some (entry_of h (without_first (without_entry (lengths c) h) c)) ≡ slice_get es (length es - 1)

end_of_some : (ds : List Entry) (e : Entry) → IsEnd (map head_of (ds ++ e ∷ [])) (all_lists (ds ++ e ∷ [])) (ds ++ e ∷ [])
end_of_some ds e h p =
    let c = all_lists (ds ++ e ∷ []) in
    let q : slice_get (map head_of ds ++ head_of e ∷ []) (length (map head_of ds ++ head_of e ∷ []) - 1) ≡ Some h =
    ap (λ (hs : List Head). slice_get hs (length hs - 1)) (sym (map-append head_of ds (e ∷ []))) ∙ p in
    let same : h ≡ head_of e = let r = get_end (map head_of ds) (head_of e) in cc in
    ap (λ (k : Head). Some (entry_of k (without_first (without_entry (lengths c) k) c))) same
    ∙ ap (λ (d : Entry). Some d) (end_lists ds e) ∙ sym (get_end ds e)

end_of : (es : List Entry) → IsEnd (map head_of es) (all_lists es) es
end_of es = ⊎_elim
    (λ none. subst (λ (xs : List Entry). IsEnd (map head_of xs) (all_lists xs) xs) (sym none) (λ h p. cc))
    (λ more. subst (λ (xs : List Entry). IsEnd (map head_of xs) (all_lists xs) xs) (sym more.2) (end_of_some more.0 more.1))
    (ends es)

-- the last entry is read from what the columns have of it at their ends
pub end_shown : (heads : List Head) (c : Lists) → IsPacked heads c → IsEnd heads c (entries_in heads c)
end_shown heads c p =
    let es = entries_in heads c in
    subst (λ (hs : List Head). IsEnd hs c es) (sym p.heads_are)
    (subst (λ (x : Lists). IsEnd (map head_of es) x es) (sym p.lists_are) (end_of es))

-- ---- the first entries alone

cut_all : (n : ℕ) (es : List Entry) → firsts (without_entries (lengths (all_lists es)) (map head_of (drop n es))) (all_lists es) ≡ all_lists (take n es)
cut_all n es =
    ap (λ (x : Lists). firsts (without_entries (lengths x) (map head_of (drop n es))) x) (ap all_lists (sym (take-append-drop n es)))
    ∙ cut_lists (take n es) (drop n es)

abbrev cut : ℕ → List Head → Lists → Lists
cut n heads c = firsts (without_entries (lengths c) (drop n heads)) c

fewer_heads : (n : ℕ) (heads : List Head) (c : Lists) → IsPacked heads c → take n heads ≡ map head_of (take n (entries_in heads c))
fewer_heads n heads c p = ap (take n) p.heads_are ∙ take-map head_of n (entries_in heads c)

fewer_lists : (n : ℕ) (heads : List Head) (c : Lists) → IsPacked heads c → cut n heads c ≡ all_lists (take n (entries_in heads c))
fewer_lists n heads c p =
    let es = entries_in heads c in
    let dropped : drop n heads ≡ map head_of (drop n es) = ap (drop n) p.heads_are ∙ drop-map head_of n es in
    ap (λ (hs : List Head). firsts (without_entries (lengths c) hs) c) dropped
    ∙ ap (λ (x : Lists). firsts (without_entries (lengths x) (map head_of (drop n es))) x) p.lists_are
    ∙ cut_all n es

pub cut_shown : (n : ℕ) (heads : List Head) (c : Lists) → IsPacked heads c → entries_in (take n heads) (cut n heads c) ≡ take n (entries_in heads c)
cut_shown n heads c p = shown _ _ _ (fewer_heads n heads c p) (fewer_lists n heads c p)

pub cut_packed : (n : ℕ) (heads : List Head) (c : Lists) → IsPacked heads c → IsPacked (take n heads) (cut n heads c)
cut_packed n heads c p = packed _ _ _ (fewer_heads n heads c p) (fewer_lists n heads c p)
