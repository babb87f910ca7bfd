-- Classes that are declared one behind the other.
use Rattle.std.proofs.Common.{◌≡◌, ℕ, List, [], ◌∷◌, ◌++◌, length, drop, Bool, true, false, Option, Some, None, Ok, Err, refl, sym, ap, ◌∙◌}
use Rattle.std.specs.Str.{bytes_eq}
use Rattle.ode_compile.specs.Compiling.{compiled_grown}
use Rattle.ode_codec.specs.declared.record.Record.{Record}
use Rattle.ode_language.specs.Languages.{ode}
use Rattle.ode_value.specs.declared.statement.ClassDecl.{ClassDecl}
use Rattle.ode_value.specs.declared.change.Added.{Added}
use Rattle.ode_value.specs.declared.class.Class.{Class}
use Rattle.ode_value.specs.declared.key.Key.{Key}
use Rattle.ode_passes.specs.Answers.{Leaves}
use Rattle.ode_passes.specs.Complete.{of_head}
use Rattle.ode_passes.specs.Records.{Found}
use Rattle.ode_passes.specs.Rules.{Ruled, ◌>>=◌, found, needs, through}
use Rattle.ode_passes.specs.declared.cause.Cause.TheVariants as cause
use Rattle.ode_value.specs.PrintedClasses.{decl_text}
use Rattle.ode_passes.specs.declared.error.OpenError.{OpenError}
use Rattle.ode_passes.specs.declared.error.OpenError.TheVariants as error
use Rattle.ode_opening.specs.Accepting.{Accepts, Compiles}
use Rattle.ode_opening.specs.Births.{own_added}
use Rattle.ode_opening.specs.Cutting.{Cuts, Declares}
use Rattle.ode_opening.specs.Declaring.{accepted_in, adds, agrees, declares_as, declares_by, declares_next, read_in, text_in}

-- ---- one class

-- what stops the reading of a class stops its addition
pub adds_stop : (read : Option ClassDecl) (known last : List Class) (added : List Added) (number : ℕ) (head : Record) (text : List ℕ) (e : OpenError)
    → read ≡ read_in ode text → Compiles (declares_as read known added number head text) (Err e) → Leaves {X = Unit {0}} (adds ode known added number head text) last (Err e)
adds_stop read known last added number head text (error.BadFile cause) is h =
    ap (λ (d : Option ClassDecl). declares_as d known added number head text >>= λ c. Ok (known ++ c ∷ [])) (sym is) ∙ ap (λ m. m >>= λ c. Ok (known ++ c ∷ [])) h
adds_stop read known last added number head text error.DiskFault is h = tt
adds_stop read known last added number head text error.Memory is h = tt

-- a class that isn't accepted is refused, whatever its text prints to
pub refused_so : (d : ClassDecl) (known : List Class) (added : List Added) (number : ℕ) (head : Record) (text : List ℕ) → accepted_in (compiled_grown known added d) ≡ None
    → declares_as (Some d) known added number head text ≡ Err (cause.Class number)
refused_so d known added number head text none = by (bytes_eq (decl_text d) text)
  where
    behind : Class → Ruled Class
    behind c = needs (cause.Class number) (agrees head c) >>= λ _. Ok c

    by : (b : Bool) → (needs (cause.Class number) b >>= λ _. found (cause.Class number) (accepted_in (compiled_grown known added d)) >>= behind) ≡ Err (cause.Class number)
    by true = ap (λ (o : Option Class). found (cause.Class number) o >>= behind) none
    by false = refl

module _ (number length : ℕ) (head : Record) (known : List Class) (added : List Added) (fs : Found) where
  -- the class behind its text
  abbrev behind_text : List ℕ × Found → Ruled (List Class × Found)
  behind_text text = adds ode known added number head text.0 >>= λ classes. Ok (classes, text.1)

  pub cut_stops_it : (records : Found) (classes : List Class) (e : OpenError) → Cuts (text_in number length fs) records (Err e)
      → Declares (declares_by ode (Some (number, length)) added head (known, fs)) classes records (Err e)
  cut_stops_it records classes (error.BadFile cause) h = ap (λ m. m >>= behind_text) h
  cut_stops_it records classes error.DiskFault h = tt
  cut_stops_it records classes error.Memory h = tt

  pub add_stops_it : (records : Found) (classes : List Class) (text : List ℕ) (at : ℕ) (e : OpenError) → Cuts (text_in number length fs) records (Ok (text, at))
      → Leaves {X = Unit {0}} (adds ode known added number head text) classes (Err e) → Declares (declares_by ode (Some (number, length)) added head (known, fs)) classes records (Err e)
  add_stops_it records classes text at (error.BadFile cause) cut h =
      ap (λ m. m >>= behind_text) cut ∙ ap (λ m. m >>= λ cs. Ok (cs, drop at records)) h
  add_stops_it records classes text at error.DiskFault cut h = tt
  add_stops_it records classes text at error.Memory cut h = tt

  pub declared_one : (records : Found) (classes : List Class) (text : List ℕ) (at : ℕ) → Cuts (text_in number length fs) records (Ok (text, at))
      → adds ode known added number head text ≡ Ok classes → Declares (declares_by ode (Some (number, length)) added head (known, fs)) classes records (Ok at)
  declared_one records classes text at cut h =
      ap (λ m. m >>= behind_text) cut ∙ ap (λ m. m >>= λ cs. Ok (cs, drop at records)) h

-- ---- class by class

-- the fields behind those of a class
abbrev behind_own : List Added → List Added → Ruled (List Class × Found) → Ruled ((List Class × Found) × List Added)
behind_own own added m = m >>= λ t. Ok (t, drop (length own) added)

abbrev step : (List Class × Found) × List Added → Key × Record → Ruled ((List Class × Found) × List Added)
step = declares_next ode

module _ (records : Found) (s : List Class × Found) (added own : List Added) (classes : List Class) (f : Key × Record) (fs : Found) (all : Ruled ((List Class × Found) × List Added))
    (is : own ≡ own_added (of_head f.1) added) (so_far : through step (s, added) (f ∷ fs) ≡ all) where
  abbrev first : Ruled (List Class × Found)
  first = declares_by ode (of_head f.1) own f.1 s

  steps : (behind_own own added first >>= λ t. through step t fs) ≡ all
  steps =
      ap (λ (mine : List Added). behind_own mine added (declares_by ode (of_head f.1) mine f.1 s) >>= λ t. through step t fs) is ∙ so_far

  pub declares_on : (at : ℕ) (more : List Added) → more ≡ drop (length own) added → Declares first classes records (Ok at)
      → through step ((classes, drop at records), more) fs ≡ all
  declares_on at more left h =
      ap (λ (rest : List Added). through step ((classes, drop at records), rest) fs) left
      ∙ sym (ap (λ (m : Ruled (List Class × Found)). behind_own own added m >>= λ t. through step t fs) h)
      ∙ steps

  pub declares_no_more : (e : OpenError) → Declares first classes records (Err e) → Accepts (all >>= λ t. Ok t.0.0) (Err e)
  declares_no_more (error.BadFile why) h =
      ap (λ m. m >>= λ t. Ok t.0.0) (sym steps ∙ ap (λ (m : Ruled (List Class × Found)). behind_own own added m >>= λ t. through step t fs) h)
  declares_no_more error.DiskFault h = tt
  declares_no_more error.Memory h = tt
