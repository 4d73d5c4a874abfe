-- The column of each field in the rules' table.
use Rattle.std.specs.Prelude.{ℕ}
use Rattle.sheet_rules.specs.Sheet.{desk_field, position_field, screen_field, session_field}
use Rattle.fields.specs.declared.Field.{Field}
use Rattle.fields.specs.declared.Field.TheVariants.{Desk, Position, Screen, Session}

abbrev pub column_of : Field → ℕ
column_of Desk = desk_field
column_of Screen = screen_field
column_of Position = position_field
column_of Session = session_field
