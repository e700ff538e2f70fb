use Rattle.pbx_wkt_files.proofs.Joined.{joined}
use Rattle.pbx_wkt_files.proofs.files.descriptor_messages.Goals as goal

pub returns : goal.returns
returns c =
    let all =
    joined _ _ _ _ _ c.descriptor_files_rows.ensures c.descriptor_members_rows.ensures c.descriptor_file_options_rows.ensures
    c.descriptor_field_options_rows.ensures c.descriptor_features_rows.ensures in
    cc (
      c.in_ok-add_messages.ensures,
      c.in_ok-add_messages-2.ensures,
      c.in_ok-add_messages-3.ensures,
      c.in_ok-add_messages-4.ensures,
      c.in_ok-add_messages-5.ensures,
    )
