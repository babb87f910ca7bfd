-- What a stop leaves of a transaction.
use Rattle.std.proofs.Common.{◌≡◌, inl, inr, ⊎_elim, IsTrue, ℕ, List, ◌++◌, take, Some, sym, ◌∙◌, subst, append-nil}
use Rattle.ode_host.specs.View.{View}
use Rattle.ode_host.specs.Host.{CutPrint, LeavesCut, LeavesOnly, Prints, Stands}
use Rattle.ode_host.proofs.Moments.{joined, now_from, print_leaves, weaker}
use Rattle.ode_keep.specs.Entries.{Changes, Entries, applied}
use Rattle.ode_keep.specs.Keeping.{LeavesOldOrNew}
use Rattle.ode_transact.specs.Settling.{LeavesBatch, Meaning}

pub same_text : (a b : List ℕ) → Some a ≡ Some b → a ≡ b
same_text a b is = cc (is)

-- a commit prints nothing
pub commit_leaves : (means : Meaning) (entries : Entries) (changes : Changes) (text said : List ℕ) (old new : View) → old.text ≡ Some text
    → LeavesOnly old new (LeavesOldOrNew means entries changes old) → LeavesOnly old new (LeavesBatch means entries changes text said)
commit_leaves means entries changes text said old new printed run =
    weaker old new (LeavesOldOrNew means entries changes old) (LeavesBatch means entries changes text said)
    (λ c o left.
    let out : o ≡ text = same_text o text (sym left.text ∙ printed) in
    let none : o ≡ text ++ take 0 said = out ∙ sym (append-nil text) in
    ⊎_elim (λ was. inl (was, out)) (λ now. inr (now, 0, none)) left.whole)
    run

-- a print leaves the file that stands, whatever was printed before
pub stands_printed : (piece file : List ℕ) (old new : View) → Prints piece old new → Stands file old → Stands file new
stands_printed piece file old new prints stands = record {
  tells = record { honest = subst IsTrue (sym prints.keeps.honest) stands.tells.honest; image = prints.image ∙ stands.tells.image };
  only = now_from (CutPrint piece) old new (λ c o. c ≡ file) prints.time stands.only (λ d e c o left cut. cut.0 ∙ stands.only d e left);
}

-- a commit, and then a print
pub commit_prints : (means : Meaning) (entries : Entries) (changes : Changes) (text said : List ℕ) (old mid new : View) → old.text ≡ Some text
    → LeavesOnly old mid (LeavesOldOrNew means entries changes old) → mid.text ≡ Some text → (file : List ℕ) × Stands file mid × means file (applied changes entries)
    → ((c o : List ℕ) → mid.left mid.moment c o → mid.text ≡ Some o) → Prints said mid new → LeavesOnly old new (LeavesBatch means entries changes text said)
commit_prints means entries changes text said old mid new printed run still (file, stands, are) text_stands prints =
    joined old mid new (LeavesBatch means entries changes text said) (commit_leaves means entries changes text said old mid printed run)
    (weaker mid new (LeavesCut file text said) (LeavesBatch means entries changes text said)
    (λ c o left. inr (subst (λ (f : List ℕ). means f (applied changes entries)) (sym left.0) are, left.1, left.2))
    (print_leaves said file text mid new text_stands stands still prints))
