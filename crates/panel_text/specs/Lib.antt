pub mod PanelText
