-- Open sessions that stay out of each other's way.
use Rattle.std.specs.Prelude.{◌≡◌, ◌≤◌, ◌+◌, ℕ, Bool, true, List, [], ◌∷◌, length, map, Ok}
use Rattle.std.specs.List.{AllByRecursion}
use Rattle.ode_language.specs.Texts.{HasText}
use Rattle.ode_footprint_laws.specs.Agreeing.{IsAmong}
use Rattle.ode_footprint_laws.specs.Fresh.{AreDrawn}
use Rattle.ode_good_laws.specs.Well.{IsWell}
use Rattle.ode_machine.specs.Interleaving.{Interleaved, Open, Taken, literal_objects}
use Rattle.ode_machine.specs.Refusals.{checked_in}
use Rattle.ode_machine.specs.declared.owned.Owned.{Owned}
use Rattle.ode_machine.specs.declared.owned.Owned.TheVariants as on
use Rattle.ode_value.specs.Acts.{Done as Reached}
use Rattle.ode_value.specs.Executing.{commands}
use Rattle.ode_value.specs.Footprints.{Footprint}
use Rattle.ode_value.specs.GoodWorlds.{RiseFrom}
use Rattle.ode_value.specs.Language.{Language, ListTx, ListWorld}
use Rattle.ode_value.specs.Limits.{number_limit}
use Rattle.ode_value.specs.Pasts.{lists}
use Rattle.ode_value.specs.Transactions.{Script, begun, looking}
use Rattle.ode_value.specs.declared.statement.Statement.TheVariants as statement
use Rattle.ode_value.specs.declared.statement.Stmt.{Stmt}

-- two sessions hold nothing that both hold
pub record AreApart (f g : Footprint) : Type 0 where
  pub objects : (id : ℕ) → IsAmong id f.looked → IsAmong id g.looked → ⊥
  pub numbers : f.drew ≡ true → g.drew ≡ true → ⊥
  pub queue : f.queued ≡ true → g.queued ≡ true → ⊥

abbrev pub AreAllApart : List Open → Type 0
AreAllApart [] = Unit {0}
AreAllApart (o ∷ more) = AllByRecursion (λ (p : Open). AreApart o.held p.held) more × AreAllApart more

-- a number is left for the transaction of each open session
abbrev pub AreLeft : ℕ → List Open → Type 0
AreLeft transaction [] = Unit {0}
AreLeft transaction (o ∷ more) = transaction + length (o ∷ more) ≤ number_limit

module _ (l : Language) where
  -- a statement was read, has these literals and is checked so on this view
  pub record IsTaken (x : ListTx) (t : Taken) : Type 0 where
    pub read : Stmt
    pub text : HasText l (statement.Simple read)
    pub literals : t.literals ≡ literal_objects l read
    pub checked : checked_in l (looking t.literals x).now.bones read ≡ Ok t.checked

  -- these statements, one after the other, are all done from one transaction to another
  abbrev pub AreDone : ListTx → List Taken → ListTx → Type 0
  AreDone x [] z = z ≡ x
  AreDone x (t ∷ more) z = (y : ListTx) × IsTaken x t × (commands lists t.checked (looking t.literals x) ≡ Reached tt y) × AreDone y more z

  -- On a world a session's statements are all done, and what they looked at, drew and queued is what the session holds.
  pub record IsOpenOver (w : ListWorld) (o : Open) : Type 0 where
    pub reached : ListTx
    pub done : AreDone (begun Script w) o.taken reached
    pub held : reached.footprint ≡ o.held
    pub drawn : AreDrawn reached

  -- The world is well, and a number is left for each open session's transaction; the numbers of these rise; each one's statements are all
  -- done on the world as it is now; and they hold nothing in common.
  pub record IsInterleaved (m : Interleaved) : Type 0 where
    pub well : IsWell l m.world
    pub numbers : AreLeft m.world.bones.transaction m.sessions
    pub rising : RiseFrom 0 (map (λ (o : Open). o.session) m.sessions)
    pub sessions : AllByRecursion (IsOpenOver m.world) m.sessions
    pub apart : AreAllApart m.sessions

-- a session holds this of what a step needs: the step is to be alone; both draw a number; both look at this object; both meet the queue
abbrev pub Clashes : Bool → Footprint → Owned → Open → Type 0
Clashes alone f on.All o = alone ≡ true
Clashes alone f on.Numbers o = (f.drew ≡ true) × (o.held.drew ≡ true)
Clashes alone f (on.Object id) o = IsAmong id f.looked × IsAmong id o.held.looked
Clashes alone f on.Queue o = (f.queued ≡ true) × (o.held.queued ≡ true)
