-- The sheet of a settings record.
use Rattle.std.specs.Prelude.{ℕ, List, Ok, Result}
use Rattle.refusal.specs.declared.Refusal.{Refusal}
use Rattle.settings.specs.declared.sheet.Sheet.{Sheet}
use Rattle.settings.specs.Codes.{and_then}
use Rattle.settings.specs.Hold.{standard_hold}
use Rattle.settings.specs.Record.{settings_from}
use Rattle.settings.specs.SuperFrame.{super_frame_packets, super_frame_cells}

abbrev pub sheet_of : List ℕ → Result Sheet Refusal
sheet_of bs = and_then (settings_from bs) (λ s.
    Ok (record { packets = super_frame_packets s; cells = super_frame_cells s; hold = standard_hold s 0 }))
