-- One watcher after the other.
use Rattle.std.proofs.Common.{◌≡◌, List, [], ◌∷◌, ◌++◌, map, arith, refl, sym, ◌∙◌, ap, append_assoc}
use Rattle.std.proofs.lemmas.List.{map-append}
use Rattle.std.proofs.lemmas.Grind.{flat_map-append}
use Rattle.ti_base.specs.declared.entry.Entry.{Entry}
use Rattle.ti_io.specs.Sink.{SinkState}
use Rattle.ti_io.proofs.Lemmas.{rose_since}
use Rattle.ti_top.specs.declared.reports.ReportEnd.{ReportEnd}
use Rattle.ti_top.specs.declared.reports.ReportEnd.TheVariants.{Written}
use Rattle.ti_top.specs.Reports.{Watcher, watcher_report, reports}
use Rattle.ti_top.specs.Mirrors.Reporting.{WritesReports}

-- a turn of a loop over a list: what is left loses its first item
pub left_turn : {X Y : Type 0} (f : X → Y) (all seen left rest : List X) (x : X) → map f all ≡ map f seen ++ map f left → left ≡ x ∷ rest → map f all ≡ map f (seen ++ x ∷ []) ++ map f rest
left_turn f all seen left rest x split next =
    split ∙ ap (λ t. map f seen ++ map f t) next ∙ sym (append_assoc (map f seen) (f x ∷ []) (map f rest)) ∙ ap (λ t. t ++ map f rest) (sym (map-append f seen (x ∷ [])))

reports_append : (xs ys : List Watcher) (h : List Entry) → reports (xs ++ ys) h ≡ reports xs h ++ reports ys h
reports_append xs ys h = flat_map-append (watcher_report h) xs ys

nil_right : {X : Type 0} (xs ys : List X) → xs ++ ys ≡ [] → ys ≡ []
nil_right [] ys e = e
nil_right (x ∷ xs) ys e = cc

nil_left : {X : Type 0} (xs ys : List X) → xs ++ ys ≡ [] → xs ≡ []
nil_left [] ys e = refl
nil_left (x ∷ xs) ys e = cc

-- some watchers report, and then others
pub reported_then : (xs ys : List Watcher) (h : List Entry) (s0 s1 s2 : SinkState) (end : ReportEnd) → WritesReports xs h s0 s1 Written → WritesReports ys h s1 s2 end → WritesReports (xs ++ ys) h s0 s2 end
reported_then xs ys h s0 s1 s2 end first next = record {
  never_falls = omega arith;
  tells = next.tells ∙ first.tells;
  rose = λ e. rose_since s0.faults s1.faults s2.faults first.never_falls (next.rose e);
  needed = λ e none. next.needed e (nil_right xs ys none);
  all = λ e told. next.all e (first.tells ∙ told) ∙ ap (λ t. t ++ reports ys h) (first.all refl told)
      ∙ append_assoc s0.taken (reports xs h) (reports ys h) ∙ ap (λ t. s0.taken ++ t) (sym (reports_append xs ys h));
  part = λ told.
      let p = next.part (first.tells ∙ told) in (
        reports xs h ++ p.0,
        (
          p.1.0,
          append_assoc (reports xs h) p.0 p.1.0 ∙ ap (λ t. reports xs h ++ t) p.1.1
              ∙ sym (reports_append xs ys h),
        ),
        p.2 ∙ ap (λ t. t ++ p.0) (first.all refl told) ∙ append_assoc s0.taken (reports xs h) p.0,
      );
  few = λ e told.
      let p = next.few e (first.tells ∙ told) in
      record {
        few = xs ++ p.few;
        others = p.others;
        first = append_assoc xs p.few p.others ∙ ap (λ t. xs ++ t) p.first;
        missing = p.missing;
        grew = p.grew ∙ ap (λ t. t ++ reports p.few h) (first.all refl told) ∙ append_assoc s0.taken (reports xs h) (reports p.few h) ∙ ap (λ t. s0.taken ++ t) (sym (reports_append xs p.few h));
      };
}

-- some watchers report, and the others don't come to it
pub reported_stop : (xs ys : List Watcher) (h : List Entry) (s0 s1 : SinkState) (end : ReportEnd) → (end ≡ Written → ⊥) → WritesReports xs h s0 s1 end → WritesReports (xs ++ ys) h s0 s1 end
reported_stop xs ys h s0 s1 end stopped first = record {
  never_falls = first.never_falls;
  tells = first.tells;
  rose = first.rose;
  needed = λ e none. first.needed e (nil_left xs ys none);
  all = λ e. absurd (stopped e);
  part = λ told.
      let p = first.part told in
      (p.0, (p.1.0 ++ reports ys h, sym (append_assoc p.0 p.1.0 (reports ys h)) ∙ ap (λ t. t ++ reports ys h) p.1.1 ∙ sym (reports_append xs ys h)), p.2);
  few = λ e told.
      let p = first.few e told in
      record {
        few = p.few;
        others = p.others ++ ys;
        first = sym (append_assoc p.few p.others ys) ∙ ap (λ t. t ++ ys) p.first;
        missing = λ none. p.missing (nil_left p.others ys none);
        grew = p.grew;
      };
}

-- a loop over watchers that ends at one of them
pub reported_end : {X : Type 0} (f : X → Watcher) (all seen left rest : List X) (x : X) (h : List Entry) (s0 s1 s2 : SinkState)
    (end : ReportEnd) → map f all ≡ map f seen ++ map f left → left ≡ x ∷ rest → WritesReports (map f seen) h s0 s1 Written
    → WritesReports (f x ∷ []) h s1 s2 end → (end ≡ Written → ⊥) → WritesReports (map f all) h s0 s2 end
reported_end f all seen left rest x h s0 s1 s2 end split next first last stopped =
    let whole : map f all ≡ map f seen ++ (f x ∷ map f rest) = split ∙ ap (λ t. map f seen ++ map f t) next in
    rw whole (reported_then (map f seen) (f x ∷ map f rest) h s0 s1 s2 end first (reported_stop (f x ∷ []) (map f rest) h s1 s2 end stopped last))
