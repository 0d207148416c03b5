-- The frame that an area stands for.
use Rattle.std.specs.Prelude.{ℕ}
use Rattle.run_model.specs.Storage.{Name}
use Rattle.thin_code.specs.declared.area.Area.{Area}
use Rattle.thin_code.specs.Code.{Frame, address_of}

abbrev pub frame_in : Area → Frame
frame_in area = record { names = area.names.keys; data_at = area.address }

abbrev pub address_in : Area → Name → ℕ
address_in area name = address_of (frame_in area) name
