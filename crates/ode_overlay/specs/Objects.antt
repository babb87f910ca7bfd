-- Objects, and what the heap has of a world, as what stands on the overlay names them.
pub use Rattle.ode_objects.specs.Heap.{counters_of}
pub use Rattle.ode_objects.specs.Objects.{activation_keys, dead, made, object_keys, stamp_of, values_of, version_keys}
pub use Rattle.ode_objects.specs.Values.{are_args, are_fields}
pub use Rattle.ode_objects.specs.declared.object.Active.{Active}
pub use Rattle.ode_objects.specs.declared.object.Object.{Object}
pub use Rattle.ode_objects.specs.declared.object.Version.{Version}
pub use Rattle.ode_objects.specs.declared.tracked.Tracked.{Tracked}
