-- The scope of what stands at a place.
use Rattle.std.specs.Prelude.{[]}
use Rattle.std.specs.Option.{option_copied}
use Rattle.ode_types.specs.Scopes.{Scope}
use Rattle.ode_typing.specs.declared.place.Locals.{Locals}
use Rattle.ode_typing.specs.declared.place.Place.{Place}

-- with these locals
abbrev pub scope_of : Place → Locals → Scope
scope_of place locals = record {
  classes = place.known;
  class = option_copied place.class;
  member = place.member.now;
  seen = locals.seen;
  next = locals.next;
  result = place.result.now;
  is_plain = place.is_plain;
  literals = place.literals.now;
}

-- the same where no local is looked at
abbrev pub scope_at : Place → Scope
scope_at place = scope_of place (record { seen = []; next = 0 })
