-- Each transition of the turnstile's table keeps its invariant.
use Rattle.std.proofs.Common.{◌≡◌, ◌≢◌, ℕ, suc, ◌+◌, ◌<◌, ◌==◌, inl, inr, ⊎_elim, false, cond, eqb, eq-eqb, ne_eqb, length-append, add-one, take, drop, List, [], ◌∷◌, ◌++◌, set, length, slice_index, refl, sym, ap, ◌∙◌, subst, arith}
use Rattle.std.specs.Prelude.{Option, Some}
use Rattle.std.proofs.lemmas.Bool.{false≢true}
use mathlib.Core.Option.{some, none, some-injective, some-ne-none}
use mathlib.Core.Option as maybe
use native.Mathlib.Decide.{ℕ_discrete}
use prog.Atomic.{either}
use lib.ListN.{get_elem?}
use Rattle.atomic_table.specs.Table.{State, Me, Step, Act, Valid, carried_after, keeps, takes, gives, stepped, Allows, Splits, Joins, opening, Final, Seen}
use Rattle.atomic_table.proofs.Lists.{at_set, set_else, set_again, at_longer}
use Rattle.ti_turnstile.specs.Passes.{GrownBy, IsLegal}
use Rattle.ti_turnstile.specs.declared.seat_view.PassView.{PassView}
use Rattle.ti_turnstile.specs.declared.seat_view.SeatView.{SeatView}
use Rattle.ti_turnstile.specs.PassViews.{pass_view, first_seen, AllPasses, AnyPass, HasSeen, HasNumber, Distinct, number_in, seen_in}
use Rattle.ti_turnstile.specs.Mirrors.Views.{view, outside, inside, new_passes, SomeSeat, total, size, BelongsToSeat, IsPass, NoneInside, OneInside, IsUnlocked, IsLocked, TableInvariant, TriesToAcquire, Releases, Announces}
use Rattle.ti_turnstile.proofs.Lists.{get_set, at_end, legal_self, legal_grown, all_map, all_both, all_append, total_set, total_two}
use Rattle.ti_turnstile.proofs.Lists.{total_append, fresh_length, fresh_all, fresh_above, fresh_seen, fresh_number, fresh_distinct}
use Rattle.ti_turnstile.proofs.Lists.{distinct_append, after_set, any_left, any_right, any_some, some_set, some_cut, some_join, after_cut}
use Rattle.ti_turnstile.proofs.Lists.{after_join}

module _ {V I : Type 0} (log_of : V → List (ℕ × I)) where
  -- the views after a step of the seat id
  each_set : (log : List (ℕ × I)) (owner : ℕ → ℕ) (views : List (SeatView I)) (id : ℕ) (w : SeatView I)
      → ((j : ℕ) (v : SeatView I) → j ≢ id → get_elem? views j ≡ some v → AllPasses (BelongsToSeat log owner j) v.passes)
      → AllPasses (BelongsToSeat log owner id) w.passes
      → (j : ℕ) (v : SeatView I) → get_elem? (set views id w) j ≡ some v → AllPasses (BelongsToSeat log owner j) v.passes
  each_set log owner views id w old new j v e = ⊎_elim
      (λ (x : (j ≡ id) × (w ≡ v)). subst (λ (y : ℕ × SeatView I). AllPasses (BelongsToSeat log owner y.0) y.1.passes) (λ k. (sym x.0 k, x.1 k)) new)
      (λ (x : (j ≢ id) × (get_elem? views j ≡ some v)). old j v x.0 x.1)
      (at_set views id j w v e)

  one_after : (views : List (SeatView I)) (id : ℕ) (w : SeatView I) → OneInside log_of views id → OneInside log_of (set views id w) id
  one_after views id w one j v ne e = one j v ne (sym (set_else views id j w ne) ∙ e)

  none_after : (views : List (SeatView I)) (id : ℕ) (w : SeatView I) → OneInside log_of views id → w.is_inside ≡ false → NoneInside log_of (set views id w)
  none_after views id w one out j v e = ⊎_elim
      (λ (x : (j ≡ id) × (w ≡ v)). ap (λ (u : SeatView I). u.is_inside) (sym x.1) ∙ out)
      (λ (x : (j ≢ id) × (get_elem? views j ≡ some v)). one j v x.0 x.1)
      (at_set views id j w v e)

  enters_free : (n id k : ℕ) (seen : List (ℕ × I)) (views : List (SeatView I)) (log : List (ℕ × I)) (hint : ℕ) (owner : ℕ → ℕ) (x : V) → log_of x ≡ log → total size views ≡ n
      → ((j : ℕ) (v : SeatView I) → get_elem? views j ≡ some v → AllPasses (BelongsToSeat log owner j) v.passes) → NoneInside log_of views
      → ((i : ℕ) → i < n → SomeSeat (λ p. p.number ≡ i) views) → ((j : ℕ) (v : SeatView I) → get_elem? views j ≡ some v → Distinct v.passes)
      → get_elem? views id ≡ some (outside k seen)
      → TableInvariant log_of n record { words = 1 ∷ hint ∷ []; homes = none ∷ []; views = set views id (inside k (log_of x)) }
  enters_free n id k seen views log hint owner x is count each out cover apart at =
      let each' : (j : ℕ) (v : SeatView I) → get_elem? views j ≡ some v → AllPasses (BelongsToSeat (log_of x) owner j) v.passes =
      subst (λ l. (j : ℕ) (v : SeatView I) → get_elem? views j ≡ some v → AllPasses (BelongsToSeat l owner j) v.passes) (sym is) each in
      let here : get_elem? (set views id (inside k (log_of x))) id ≡ some (inside k (log_of x)) = get_set views id (outside k seen) (inside k (log_of x)) at in record {
        log = log_of x;
        hint = hint;
        owner = owner;
        count = (let t = total_set size views id (outside k seen) (inside k (log_of x)) at in omega arith);
        each = each_set (log_of x) owner views id (inside k (log_of x)) (λ j v _ e. each' j v e) ((legal_self (log_of x) k, (each' id (outside k seen) at).0.1), tt);
        apart = after_set (λ v. Distinct v.passes) views id (inside k (log_of x)) apart (tt, tt);
        knower = (id, inside k (log_of x), here, inl refl);
        cover = λ i lt. some_set (λ p. p.number ≡ i) views id (outside k seen) (inside k (log_of x)) at (λ h. h) (cover i lt);
        turn = inr (refl, refl, id, k, here, one_after views id (inside k (log_of x)) (λ j v _ e. out j v e));
      }

  pub tries : (n slots id k : ℕ) (seen : List (ℕ × I)) (st : Step (Option V))
      → Allows (TableInvariant log_of n) slots id (outside k seen, []) 0 (λ w. either (w == 0) 1 w) (TriesToAcquire log_of st (outside k seen, []))
  tries n slots id k seen st s r wide at _ =
      let Able : List ℕ → List (maybe.Option (Option V)) → Type 0 = λ ws hs.
      (w : SeatView I) × (a : Act (Option V)) × Valid hs [] a × TableInvariant log_of n
      (stepped record { words = ws; homes = hs; views = s.views } 0 (either (slice_index ws 0 == 0) 1 (slice_index ws 0)) id [] w a)
      × TriesToAcquire log_of st (outside k seen, []) (slice_index ws 0) (w, carried_after [] a) in
      ⊎_elim
      (λ (free : IsUnlocked log_of r.log r.hint s).
      let legal : IsLegal (log_of free.1) k seen = subst (λ l. IsLegal l k seen) (sym free.3) (r.each id (outside k seen) at).0.0 in
      subst (λ (y : List ℕ × List (maybe.Option (Option V))). Able y.0 y.1) (λ i. (sym free.0 i, sym free.2 i)) (
        inside k (log_of free.1),
        takes 0 (Some free.1),
        refl,
        enters_free n id k seen s.views r.log r.hint r.owner free.1 free.3 r.count r.each free.4 r.cover r.apart at,
        ((λ _. (k, seen, free.1, refl, refl, refl, legal)), λ ne. absurd (ne refl)),
      ))
      (λ (held : IsLocked log_of r.log r.hint s).
      let same : set s.views id (outside k seen) ≡ s.views = set_again s.views id (outside k seen) at in
      subst (λ (y : List ℕ × List (maybe.Option (Option V))). Able y.0 y.1) (λ i. (sym held.0 i, sym held.1 i)) (
        outside k seen,
        keeps,
        tt,
        subst (λ (y : List ℕ × List (maybe.Option (Option V)) × List (SeatView I)). TableInvariant log_of n record { words = y.0; homes = y.1; views = y.2 }) (λ i. (held.0 i, held.1 i, sym same i)) r,
        ((λ e. absurd (omega (arith, e))), λ _. refl),
      ))
      r.turn

  -- the holder goes out, has seen the log of the value, and the value is back in its slot
  pub goes : (n slots id k : ℕ) (seen : List (ℕ × I)) (x : V) (st : Step (Option V)) → GrownBy k seen (log_of x)
      → Allows (TableInvariant log_of n) slots id (inside k seen, (0, Some x) ∷ []) 0 (λ _. 0) (λ _. Releases log_of st (inside k seen, (0, Some x) ∷ []) 0)
  goes n slots id k seen x st grown s r wide at _ = ⊎_elim
      (λ (free : IsUnlocked log_of r.log r.hint s). absurd (false≢true (sym (free.4 id (inside k seen) at))))
      (λ (held : IsLocked log_of r.log r.hint s). elim (ℕ_discrete id held.2) [
        | no ne ↦ absurd (false≢true (sym (held.5 id (inside k seen) ne at)))
        | yes e ↦
            let it : inside k seen ≡ inside held.3 r.log = some-injective (inside k seen) (inside held.3 r.log) (sym at ∙ ap (λ i. get_elem? s.views i) e ∙ held.4) in
            let whole : seen ≡ r.log = ap (λ (v : SeatView I). first_seen v.passes) it in
            let grown' : GrownBy k r.log (log_of x) = subst (λ l. GrownBy k l (log_of x)) whole grown in
            let mine : r.owner k ≡ id = (r.each id (inside k seen) at).0.1 in
            let w : SeatView I = outside k (log_of x) in
            let here : get_elem? (set s.views id w) id ≡ some w = get_set s.views id (inside k seen) w at in (
              w,
              gives,
              tt,
              record {
                log = log_of x;
                hint = r.hint;
                owner = r.owner;
                count = (let t = total_set size s.views id (inside k seen) w at in let c = r.count in omega arith);
                each = each_set (log_of x) r.owner s.views id w
                    (λ j v ne e. all_map (BelongsToSeat r.log r.owner j) (BelongsToSeat (log_of x) r.owner j)
                    (λ p f. (legal_grown k p.number r.log (log_of x) p.seen (λ same. ne (sym f.1 ∙ ap r.owner same ∙ mine)) grown' f.0, f.1)) v.passes (r.each j v e))
                    ((legal_self (log_of x) k, mine), tt);
                apart = after_set (λ v. Distinct v.passes) s.views id w r.apart (tt, tt);
                knower = (id, w, here, inl refl);
                cover = λ i lt. some_set (λ p. p.number ≡ i) s.views id (inside k seen) w at (λ h. h) (r.cover i lt);
                turn = inl (
                  ap (λ l. set l 0 0) held.0,
                  x,
                  ap (λ l. set l 0 (some (Some x))) held.1,
                  refl,
                  none_after s.views id w (λ j v ne e'. held.5 j v (λ h. ne (h ∙ sym e)) e') refl,
                );
              },
              (refl, refl),
            )
      ])
      r.turn

  -- the hint is another, and all else is as it was
  pub announces : (n slots id new : ℕ) (m : Me (Option V) (SeatView I)) (st : Step (Option V))
      → Allows (TableInvariant log_of n) slots id m 1 (λ _. new) (λ _. Announces st m new)
  announces n slots id new m st s r wide at _ =
      let same : set s.views id m.0 ≡ s.views = set_again s.views id m.0 at in (
        m.0,
        keeps,
        tt,
        subst (λ (vs : List (SeatView I)). TableInvariant log_of n record { words = set s.words 1 new; homes = s.homes; views = vs }) (sym same) record {
          log = r.log;
          hint = new;
          owner = r.owner;
          count = r.count;
          each = r.each;
          apart = r.apart;
          knower = r.knower;
          cover = r.cover;
          turn = ⊎_elim
              (λ (free : IsUnlocked log_of r.log r.hint s). inl (ap (λ l. set l 1 new) free.0, free.1, free.2, free.3, free.4))
              (λ (held : IsLocked log_of r.log r.hint s). inr (ap (λ l. set l 1 new) held.0, held.1, held.2, held.3, held.4, held.5))
              r.turn;
        },
        refl,
      )

  pub opens : (n : ℕ) (x : V) → 0 < n → log_of x ≡ [] → TableInvariant log_of n (opening (0 ∷ 0 ∷ []) (Some x ∷ []) (view false (new_passes 0 n)))
  opens n x some_pass empty =
      let first : SeatView I = view false (new_passes 0 n) in
      let here : (P : ℕ → SeatView I → Type 0) → P 0 first → (j : ℕ) (v : SeatView I) → get_elem? (first ∷ []) j ≡ some v → P j v = λ P p j v e. ⊎_elim
      (λ (none_there : get_elem? [] j ≡ some v). absurd (some-ne-none v (sym none_there)))
      (λ (t : (j ≡ 0) × (first ≡ v)). subst (λ (y : ℕ × SeatView I). P y.0 y.1) (λ k. (sym t.0 k, t.1 k)) p)
      (at_end [] first v j e) in
      record {
        log = [];
        hint = 0;
        owner = λ _. 0;
        count = (let l = fresh_length I 0 n in omega arith);
        each = here (λ j v. AllPasses (BelongsToSeat [] (λ _. 0) j) v.passes) (fresh_all I (BelongsToSeat [] (λ _. 0) 0) (λ k. (legal_self [] k, refl)) 0 n);
        apart = here (λ j v. Distinct v.passes) (fresh_distinct I 0 n);
        knower = (0, first, refl, fresh_seen I 0 n some_pass);
        cover = λ i lt. (0, first, refl, fresh_number I i 0 n (omega arith) (omega arith));
        turn = inl (refl, x, refl, empty, here (λ j v. v.is_inside ≡ false) refl);
      }

  -- the first pass of those not yet given gets a seat of its own
  pub cuts : (n id i m : ℕ) → Splits (TableInvariant log_of n) id (view false (new_passes i (suc m))) (view false (new_passes (suc i) m)) (view false (pass_view i [] ∷ []))
  cuts n id i m s r at =
      let old : SeatView I = view false (new_passes i (suc m)) in
      let left : SeatView I = view false (new_passes (suc i) m) in
      let right : SeatView I = view false (pass_view i [] ∷ []) in
      let vs : List (SeatView I) = set s.views id left in
      let owner' : ℕ → ℕ = λ k. cond (eqb k i) (length vs) (r.owner k) in
      let mine : r.owner i ≡ id = (r.each id old at).0.1 in
      let kept : (p : PassView I) → p.number ≢ i → owner' p.number ≡ r.owner p.number = λ p ne. ap (λ b. cond b (length vs) (r.owner p.number)) (ne_eqb p.number i ne) in
      let stays : (j : ℕ) (v : SeatView I) → j ≢ id → get_elem? s.views j ≡ some v → get_elem? (vs ++ right ∷ []) j ≡ some v =
      λ j v ne e. at_longer vs (right ∷ []) j v (set_else s.views id j left ne ∙ e) in
      record {
        log = r.log;
        hint = r.hint;
        owner = owner';
        count = (let a = total_append size vs right in let t = total_set size s.views id old left at in let c = r.count in omega arith);
        each = after_cut (λ j v. AllPasses (BelongsToSeat r.log owner' j) v.passes) s.views id left right
            (λ j v ne e. all_map (BelongsToSeat r.log r.owner j) (BelongsToSeat r.log owner' j) (λ p f. (f.0, kept p (λ same. ne (sym f.1 ∙ ap r.owner same ∙ mine)) ∙ f.1)) v.passes (r.each j v e))
            (all_both (BelongsToSeat r.log r.owner id) (λ p. p.number ≢ i) (BelongsToSeat r.log owner' id) (λ p f ne. (f.0, kept p ne ∙ f.1))
            (new_passes (suc i) m) (r.each id old at).1 (fresh_above I i (suc i) m (omega arith)))
            (((r.each id old at).0.0, ap (λ b. cond b (length vs) (r.owner i)) (eq-eqb i i refl)), tt);
        apart = after_cut (λ j v. Distinct v.passes) s.views id left right (λ j v _ e. r.apart j v e) (r.apart id old at).1 (tt, tt);
        knower = some_cut (λ p. p.seen ≡ r.log) s.views id old left right at (⊎_elim (λ h. inl (inl h)) (λ t. inr t)) r.knower;
        cover = λ k lt. some_cut (λ p. p.number ≡ k) s.views id old left right at (⊎_elim (λ h. inl (inl h)) (λ t. inr t)) (r.cover k lt);
        turn = ⊎_elim
            (λ (free : IsUnlocked log_of r.log r.hint s). inl (free.0, free.1, free.2, free.3, after_cut (λ j v. v.is_inside ≡ false) s.views id left right (λ j v _ e. free.4 j v e) refl refl))
            (λ (held : IsLocked log_of r.log r.hint s).
            let ne : held.2 ≢ id = λ e. false≢true (ap (λ (v : SeatView I). v.is_inside) (some-injective old (inside held.3 r.log) (sym at ∙ ap (λ j. get_elem? s.views j) (sym e) ∙ held.4))) in
            inr (
              held.0,
              held.1,
              held.2,
              held.3,
              stays held.2 (inside held.3 r.log) ne held.4,
              λ j v other e. after_cut (λ j v. j ≢ held.2 → v.is_inside ≡ false) s.views id left right (λ j v _ e o. held.5 j v o e) (λ _. refl) (λ _. refl) j v e other,
            ))
            r.turn;
      }

  -- one seat has the parts of two
  pub joins : (n id other : ℕ) (ps qs : List (PassView I)) → Joins (TableInvariant log_of n) id (view false ps) other (view false qs) (view false (ps ++ qs)) (view false [])
  joins n id other ps qs s r at apart at' =
      let both : SeatView I = view false (ps ++ qs) in
      let spent : SeatView I = view false [] in
      let there : get_elem? s.views other ≡ some (view false qs) = sym (set_else s.views id other both apart) ∙ at' in
      let owner' : ℕ → ℕ = λ k. cond (eqb (r.owner k) other) id (r.owner k) in
      let away : (k : ℕ) → r.owner k ≢ other → owner' k ≡ r.owner k = λ k ne. ap (λ b. cond b id (r.owner k)) (ne_eqb (r.owner k) other ne) in
      let moved : (k : ℕ) → r.owner k ≡ other → owner' k ≡ id = λ k e. ap (λ b. cond b id (r.owner k)) (eq-eqb (r.owner k) other e) in
      let vs : List (SeatView I) = set (set s.views id both) other spent in
      let stays : (j : ℕ) (v : SeatView I) → j ≢ id → j ≢ other → get_elem? s.views j ≡ some v → get_elem? vs j ≡ some v =
      λ j v a b e. set_else (set s.views id both) other j spent b ∙ set_else s.views id j both a ∙ e in
      let not_in : (j : ℕ) (passes : List (PassView I)) → get_elem? s.views j ≡ some (view false passes) → (held : IsLocked log_of r.log r.hint s) → held.2 ≢ j = λ j passes e held same.
      false≢true (ap (λ (v : SeatView I). v.is_inside) (some-injective (view false passes) (inside held.3 r.log) (sym e ∙ ap (λ j. get_elem? s.views j) (sym same) ∙ held.4))) in
      record {
        log = r.log;
        hint = r.hint;
        owner = owner';
        count = (let a = total_set size s.views id (view false ps) both at in
            let b = total_set size (set s.views id both) other (view false qs) spent at' in let c = r.count in
            let l = length-append ps qs in omega arith);
        each = after_join (λ j v. AllPasses (BelongsToSeat r.log owner' j) v.passes) s.views id other both spent
            (λ j v a b e. all_map (BelongsToSeat r.log r.owner j) (BelongsToSeat r.log owner' j) (λ p f. (f.0, away p.number (λ o. b (sym f.1 ∙ o)) ∙ f.1)) v.passes (r.each j v e))
            (all_append (BelongsToSeat r.log owner' id) ps qs
            (all_map (BelongsToSeat r.log r.owner id) (BelongsToSeat r.log owner' id) (λ p f. (f.0, away p.number (λ o. apart (sym o ∙ f.1)) ∙ f.1)) ps (r.each id (view false ps) at))
            (all_map (BelongsToSeat r.log r.owner other) (BelongsToSeat r.log owner' id) (λ p f. (f.0, moved p.number f.1)) qs (r.each other (view false qs) there)))
            tt;
        apart = after_join (λ j v. Distinct v.passes) s.views id other both spent (λ j v _ _ e. r.apart j v e)
            (distinct_append ps qs (r.apart id (view false ps) at) (r.apart other (view false qs) there)
            (all_map (BelongsToSeat r.log r.owner id) (λ p. AllPasses (λ q. q.number ≢ p.number) qs)
            (λ p f. all_map (BelongsToSeat r.log r.owner other) (λ q. q.number ≢ p.number) (λ q h same. apart (sym h.1 ∙ ap r.owner same ∙ f.1)) qs
            (r.each other (view false qs) there)) ps (r.each id (view false ps) at)))
            tt;
        knower = some_join (λ p. p.seen ≡ r.log) s.views id other (view false ps) (view false qs) both spent apart at there
            (any_left (λ p. p.seen ≡ r.log) ps qs) (any_right (λ p. p.seen ≡ r.log) ps qs) r.knower;
        cover = λ k lt. some_join (λ p. p.number ≡ k) s.views id other (view false ps) (view false qs) both spent apart at there
            (any_left (λ p. p.number ≡ k) ps qs) (any_right (λ p. p.number ≡ k) ps qs) (r.cover k lt);
        turn = ⊎_elim
            (λ (free : IsUnlocked log_of r.log r.hint s). inl (free.0, free.1, free.2, free.3, after_join (λ j v. v.is_inside ≡ false) s.views id other both spent (λ j v _ _ e. free.4 j v e) refl refl))
            (λ (held : IsLocked log_of r.log r.hint s).
            inr (
              held.0,
              held.1,
              held.2,
              held.3,
              stays held.2 (inside held.3 r.log) (not_in id ps at held) (not_in other qs there held) held.4,
              λ j v o e. after_join (λ j v. j ≢ held.2 → v.is_inside ≡ false) s.views id other both spent (λ j v _ _ e o. held.5 j v o e) (λ _. refl) (λ _. refl) j v e o,
            ))
            r.turn;
      }

  -- where one seat has all passes, each part is one of its own
  all_here : (n id : ℕ) (ps : List (PassView I)) (P : PassView I → Type 0) (s : State (Option V) (SeatView I)) → TableInvariant log_of n s → get_elem? s.views id
      ≡ some (view false ps) → length ps ≡ n → SomeSeat P s.views → AnyPass P ps
  all_here n id ps P s r at all t =
      let v : SeatView I = view false ps in
      elim (ℕ_discrete id t.0) as (λ _. AnyPass P ps) [
        | yes e ↦ subst (λ (u : SeatView I). AnyPass P u.passes) (some-injective t.1 v (sym t.2 ∙ ap (λ j. get_elem? s.views j) (sym e) ∙ at)) t.3
        | no ne ↦ absurd (let two = total_two size s.views id t.0 v t.1 ne at t.2 in let h = any_some P t.1.passes t.3 in let c = r.count in omega arith)
      ]

  -- then the value is in its slot, and its log is legal with each pass
  pub closes : (n id : ℕ) (ps : List (PassView I)) (s : State (Option V) (SeatView I)) → TableInvariant log_of n s → get_elem? s.views id ≡ some (view false ps) → length ps ≡ n
      → (x : V) × (s.homes ≡ some (Some x) ∷ []) × AllPasses (λ p. IsLegal (log_of x) p.number p.seen) ps × HasSeen (log_of x) ps × ((k : ℕ) → k < n → HasNumber k ps) × Distinct ps
  closes n id ps s r at all =
      let v : SeatView I = view false ps in
      ⊎_elim
      (λ (free : IsUnlocked log_of r.log r.hint s).
      let knows : HasSeen r.log ps = all_here n id ps (λ p. p.seen ≡ r.log) s r at all r.knower in
      let legal : AllPasses (λ p. IsLegal r.log p.number p.seen) ps = all_map (BelongsToSeat r.log r.owner id) (λ p. IsLegal r.log p.number p.seen) (λ p f. f.0) ps (r.each id v at) in (
        free.1,
        free.2,
        subst (λ l. AllPasses (λ p. IsLegal l p.number p.seen) ps) (sym free.3) legal,
        subst (λ l. HasSeen l ps) (sym free.3) knows,
        (λ k lt. all_here n id ps (λ p. p.number ≡ k) s r at all (r.cover k lt)),
        r.apart id v at,
      ))
      (λ (held : IsLocked log_of r.log r.hint s).
      let ne : id ≢ held.2 = λ e. false≢true (ap (λ (v : SeatView I). v.is_inside) (some-injective v (inside held.3 r.log) (sym at ∙ ap (λ j. get_elem? s.views j) e ∙ held.4))) in
      absurd (let t = total_two size s.views id held.2 v (inside held.3 r.log) ne at held.4 in let c = r.count in omega arith))
      r.turn

  pub closes_value : (n id : ℕ) (ps : List (PassView I)) (words : List ℕ) (slots : List (Option V)) → Final (Seen (TableInvariant log_of n) id (view false ps)) words slots → length ps ≡ n
      → (x : V) × (get_elem? slots 0 ≡ some (Some x)) × AllPasses (λ p. IsLegal (log_of x) p.number p.seen) ps × HasSeen (log_of x) ps × ((k : ℕ) → k < n → HasNumber k ps) × Distinct ps
  closes_value n id ps words slots final all =
      let c = closes n id ps final.0 final.1.0 final.1.1 all in
      (c.0, final.4 0 (Some c.0) (ap (λ l. get_elem? l 0) c.1), c.2, c.3, c.4, c.5)

  pub tries_from : (n slots id : ℕ) (m : Me (Option V) (SeatView I)) (st : Step (Option V)) → IsPass m → Allows (TableInvariant log_of n) slots id m 0 (λ w. either (w == 0) 1 w) (TriesToAcquire log_of st m)
  tries_from n slots id m st is = subst (λ (u : Me (Option V) (SeatView I)). Allows (TableInvariant log_of n) slots id u 0 (λ w. either (w == 0) 1 w)
      (TriesToAcquire log_of st u)) (λ i. (sym is.0 i, sym is.1 i)) (tries n slots id (number_in m) (seen_in m) st)

  pub goes_from : (n slots id : ℕ) (m : Me (Option V) (SeatView I)) (x : V) (st : Step (Option V)) → m.0 ≡ inside (number_in m) (seen_in m)
      → m.1 ≡ (0, Some x) ∷ [] → GrownBy (number_in m) (seen_in m) (log_of x)
      → Allows (TableInvariant log_of n) slots id m 0 (λ _. 0) (λ _. Releases log_of st m 0)
  goes_from n slots id m x st view_is slot_is grown = subst (λ (u : Me (Option V) (SeatView I)). Allows (TableInvariant log_of n) slots id u 0 (λ _. 0)
      (λ _. Releases log_of st u 0)) (λ i. (sym view_is i, sym slot_is i)) (goes n slots id (number_in m) (seen_in m) x st grown)

  pub cuts_from : (n id i m : ℕ) (v : SeatView I) → v ≡ view false (new_passes i (m + 1)) → Splits (TableInvariant log_of n) id v (view false (drop 1 v.passes)) (view false (take 1 v.passes))
  cuts_from n id i m v is = subst (λ (u : SeatView I). Splits (TableInvariant log_of n) id u (view false (drop 1 u.passes)) (view false (take 1 u.passes)))
      (sym (is ∙ ap (λ k. view false (new_passes i k)) (add-one m))) (cuts n id i m)

  pub joins_from : (n id other : ℕ) (v w : SeatView I) → v ≡ view false v.passes → w ≡ view false w.passes → Joins (TableInvariant log_of n) id v other w (view false (v.passes ++ w.passes)) (view false [])
  joins_from n id other v w v_is w_is = subst (λ (y : SeatView I × SeatView I). Joins (TableInvariant log_of n) id y.0 other y.1
      (view false (v.passes ++ w.passes)) (view false [])) (λ i. (sym v_is i, sym w_is i)) (joins n id other v.passes w.passes)
