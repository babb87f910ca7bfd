-- The spelling of a class's head.
use Rattle.std.proofs.Common.{◌≡◌, ℕ, List, ◌++◌, length, ap, sym, ◌∙◌, append_assoc}
use Rattle.std.specs.Option.{unwrap_or}
use Rattle.ode_codec.specs.declared.record.Record.TheVariants as of
use Rattle.ode_codec.specs.Spelling.{key_of, spelled, value_of}
use Rattle.ode_codec.specs.StoredRows.{u16, u32}
use Rattle.ode_value.specs.Keys.{class_head_key}
use Rattle.ode_value.specs.Records.{byte}
use Rattle.ode_value.specs.declared.class.Class.{Class}
use Rattle.ode_class_records.specs.ClassRows.{class_head}

-- four lists, grouped from the left
regroup : (a b c d : List ℕ) → a ++ (b ++ (c ++ d)) ≡ a ++ b ++ c ++ d
regroup a b c d = sym (append_assoc (a ++ b) c d ∙ append_assoc a b (c ++ d))

pub head_spelled : (c : Class) (name : List ℕ) (parent text_length triggers : ℕ) → name ≡ c.name → parent ≡ unwrap_or c.parent 0
    → spelled (of.ClassHead c.number name parent text_length triggers) ≡ class_head c text_length triggers
unfolding key_of value_of
head_spelled c name parent text_length triggers named line =
    ap (λ bytes. (class_head_key c.number, bytes)) (regroup (byte (length name) ++ name) (u32 parent) (u32 text_length) (u16 triggers))
    ∙ ap (λ (n : List ℕ). (class_head_key c.number, byte (length n) ++ n ++ u32 parent ++ u32 text_length ++ u16 triggers)) named
    ∙ ap (λ p. (class_head_key c.number, byte (length c.name) ++ c.name ++ u32 p ++ u32 text_length ++ u16 triggers)) line
