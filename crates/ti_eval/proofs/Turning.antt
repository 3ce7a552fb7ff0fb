-- Proves that the search in the code finds the innermost foreach with a variable.
use Rattle.std.proofs.Common.{◌≡◌, ◌∙◌, ap, refl, sym, ℕ, zero, suc, ◌-◌, ◌==◌, ◌<◌, ◌≤◌, eq-eqb, true, List, [], ◌∷◌, ◌++◌, take, reverse, length, map, drop, get_or, arith}
use Rattle.std.proofs.Math.Seq.{take-suc}
use Rattle.std.proofs.lemmas.List.{reverse-append, length-reverse, length-take-le}
use Rattle.std.specs.declared.alloc.Global.{Global}
use Rattle.std.specs.declared.boxed.Box.{Box}
use Rattle.ti_lang.specs.Program.Statements.{NumberedStm, NumberedStms}
use Rattle.ti_lang.specs.Program.Statements as s
use Rattle.ti_base.specs.declared.value.Value.TheVariants.{Pt}
use Rattle.ti_lang.specs.Meaning.Held.{Held, Plain, no_value}
use Rattle.ti_lang.specs.Meaning.Processes.{ContItem, Do, End}
use Rattle.ti_lang.specs.Meaning.Turns.{Turn, turns_at, point_at}
use Rattle.ti_eval.specs.declared.frame.CanonicalPoint.{CanonicalPoint}
use Rattle.ti_eval.specs.declared.frame.Resume.{Resume}
use Rattle.ti_eval.specs.declared.frame.Resume.TheVariants as resume
use Rattle.ti_eval.specs.declared.frame.StmtFrame.{StmtFrame}
use Rattle.ti_eval.specs.Places.{list_of, inside}
use Rattle.ti_eval.specs.Frames.{MethodContext, work_of, work_of_body, pending_of, rest_of, list_in, end_of_for}

-- the turn that is left of a statement, before those around it
abbrev pub turn_in : Resume → List Turn → List Turn
turn_in (resume.Turn variable domain at) ts = record { variable = variable; point = at.point } ∷ ts
turn_in t ts = ts

abbrev pub turns_left : List StmtFrame → Resume → List Turn
turns_left [] t = []
turns_left (l ∷ ls) t = turn_in t (turns_left ls l.resume)

abbrev pub turns_rest : List StmtFrame → List Turn
turns_rest [] = []
turns_rest (l ∷ ls) = turns_left ls l.resume

none_in : (xs : List NumberedStm) (ws : List ContItem) → turns_at (map Do xs ++ ws) ≡ turns_at ws
none_in [] ws = refl
none_in (x ∷ xs) ws = none_in xs ws

none_alone : (xs : List NumberedStm) → turns_at (map Do xs) ≡ []
none_alone [] = refl
none_alone (x ∷ xs) = none_alone xs

none_in_list : (xs : List NumberedStm) (x : NumberedStm) (ws : List ContItem) → turns_at ((map Do xs ++ End x ∷ []) ++ ws) ≡ turns_at ws
none_in_list [] x ws = refl
none_in_list (y ∷ xs) x ws = none_in_list xs x ws

none_at_end : (x : NumberedStm) (ws : List ContItem) → turns_at (end_of_for x ++ ws) ≡ turns_at ws
none_at_end (s.For at first c update body) ws = refl
none_at_end s.Empty ws = refl
none_at_end (s.Declare at type variable value) ws = refl
none_at_end (s.Assign at target value) ws = refl
none_at_end (s.Update at op target y) ws = refl
none_at_end (s.Step at op target) ws = refl
none_at_end (s.Call y) ws = refl
none_at_end (s.Print at what) ws = refl
none_at_end (s.Barrier at) ws = refl
none_at_end (s.If at e y) ws = refl
none_at_end (s.IfElse at e y z) ws = refl
none_at_end (s.While at e body) ws = refl
none_at_end (s.Foreach at variable domain body) ws = refl
none_at_end (s.Block body) ws = refl
none_at_end (s.Break at) ws = refl
none_at_end (s.Continue at) ws = refl
none_at_end (s.Return at value) ws = refl

turn_of : (site : MethodContext) (x : NumberedStm) (t : Resume) (ws : List ContItem) → turns_at (work_of site x t ++ ws) ≡ turn_in t (turns_at ws)
turn_of site x resume.Here ws = refl
turn_of site x resume.Inside ws = refl
turn_of site x (resume.From n) ws = none_in_list (drop n (list_in x)) x ws
turn_of site x resume.Ending ws = refl
turn_of site x resume.Before ws = none_at_end x ws
turn_of site x resume.Behind ws = none_at_end x ws
turn_of site x (resume.Each variable domain last) ws = refl
turn_of site x (resume.Turn variable domain at) ws = refl
turn_of site x (resume.Copying copy last) ws = refl
turn_of site x (resume.Taking grid next) ws = refl

turns_of_body : (body : NumberedStms) (t : Resume) → turns_at (work_of_body body t) ≡ []
turns_of_body body (resume.From n) = none_alone (drop n (list_of body))
turns_of_body body resume.Here = refl
turns_of_body body resume.Inside = refl
turns_of_body body resume.Ending = refl
turns_of_body body resume.Before = refl
turns_of_body body resume.Behind = refl
turns_of_body body (resume.Each variable domain last) = refl
turns_of_body body (resume.Turn variable domain at) = refl
turns_of_body body (resume.Copying copy last) = refl
turns_of_body body (resume.Taking grid next) = refl

turns_in_left : (site : MethodContext) (body : NumberedStms) (ls : List StmtFrame) (t : Resume) → turns_at (pending_of site body ls t) ≡ turns_left ls t
turns_in_left site body [] t = turns_of_body body t
turns_in_left site body (l ∷ ls) t =
    turn_of site (inside body (l ∷ ls)) t (pending_of site body ls l.resume) ∙ ap (turn_in t) (turns_in_left site body ls l.resume)

pub turns_in_rest : (site : MethodContext) (body : NumberedStms) (ls : List StmtFrame) → turns_at (rest_of site body ls) ≡ turns_rest ls
turns_in_rest site body [] = refl
turns_in_rest site body (l ∷ ls) = turns_in_left site body ls l.resume

left_is : (ls : List StmtFrame) (t : Resume) → 0 < length ls → turns_left ls t ≡ turn_in t (turns_rest ls)
left_is [] t h = absurd (omega arith)
left_is (l ∷ ls) t h = refl

-- one level more, which isn't the outermost
pub one_turn : (xs : List StmtFrame) (m : ℕ) (d : StmtFrame) → m < length xs → 0 < m → turns_rest (reverse (take (suc m) xs)) ≡ turn_in (get_or xs m d).resume (turns_rest (reverse (take m xs)))
one_turn xs m d h k =
    let e : length (reverse (take m xs)) ≡ m = length-reverse (take m xs) ∙ length-take-le m xs (omega arith) in
    rw (take-suc xs m d h, reverse-append) (left_is (reverse (take m xs)) (get_or xs m d).resume (omega (arith, e)))

none_before : (xs : List StmtFrame) (n : ℕ) → n ≤ 1 → turns_rest (reverse (take n xs)) ≡ []
none_before xs zero h = refl
none_before [] (suc zero) h = refl
none_before (x ∷ xs) (suc zero) h = refl
none_before xs (suc (suc n)) h = absurd (omega arith)

-- the innermost turn of the loop with this variable
pub turn_found : (site : MethodContext) (body : NumberedStms) (xs : List StmtFrame) (n : ℕ) (d : StmtFrame) (number variable : ℕ) (domain : Box Held Global) (at : CanonicalPoint) → 1 < n → n ≤ length xs
    → (get_or xs (n - 1) d).resume ≡ resume.Turn variable domain at → variable ≡ number → point_at number (turns_rest (reverse xs)) ≡ point_at number (turns_rest (reverse (take n xs)))
    → Plain (Pt at.point) ≡ point_at number (turns_at (rest_of site body (reverse xs)))
turn_found site body xs n d number variable domain at h k is same so =
    let m : ℕ = n - 1 in
    let e : n ≡ suc m = omega arith in
    let l : m < length xs = omega arith in
    let p : 0 < m = omega arith in
    let rest : List Turn = turns_rest (reverse (take m xs)) in
    let t : turns_rest (reverse (take n xs)) ≡ turn_in (resume.Turn variable domain at) rest =
    ap (λ j. turns_rest (reverse (take j xs))) e ∙ one_turn xs m d l p ∙ ap (λ (u : Resume). turn_in u rest) is in
    let f : (variable == number) ≡ true = eq-eqb variable number same in
    sym (ap (point_at number) (turns_in_rest site body (reverse xs)) ∙ so ∙ ap (point_at number) t ∙ rw f refl)

-- without such a turn
pub no_turn : (site : MethodContext) (body : NumberedStms) (xs : List StmtFrame) (n number : ℕ) → n ≤ 1 → point_at number (turns_rest (reverse xs)) ≡ point_at number (turns_rest (reverse (take n xs)))
    → no_value ≡ point_at number (turns_at (rest_of site body (reverse xs)))
no_turn site body xs n number h so =
    sym (ap (point_at number) (turns_in_rest site body (reverse xs)) ∙ so ∙ ap (point_at number) (none_before xs n h))

-- a turn that has another variable, or no turn
pub other_turn : (xs : List StmtFrame) (n : ℕ) (d : StmtFrame) (number : ℕ) → 1 < n → n ≤ length xs
    → ((ts : List Turn) → point_at number (turn_in (get_or xs (n - 1) d).resume ts) ≡ point_at number ts) → point_at number (turns_rest (reverse xs)) ≡ point_at number (turns_rest (reverse (take n xs)))
    → point_at number (turns_rest (reverse xs)) ≡ point_at number (turns_rest (reverse (take (n - 1) xs)))
other_turn xs n d number h k skip so =
    let m : ℕ = n - 1 in
    let e : n ≡ suc m = omega arith in
    let l : m < length xs = omega arith in
    let p : 0 < m = omega arith in
    so ∙ ap (λ j. point_at number (turns_rest (reverse (take j xs)))) e ∙ ap (point_at number) (one_turn xs m d l p) ∙ skip (turns_rest (reverse (take m xs)))
